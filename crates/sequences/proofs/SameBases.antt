-- Whether two stretches are the same, gathered from the front: `same` is what the first i pairs of bases say. Assumes nothing.
use Prim.Native.Nat.{ℕ, ◌+◌, ◌≤◌, ◌<◌}
use native.Mathlib.Numerals.{add-one}
use mathlib.Core.Path.{◌≡◌, refl, ap}
use mathlib.Core.Bool.{Bool, true, false, ◌&&◌}
use mathlib.Core.List.{List}
use lib.Dec.{eqb}
use lib.ListN.{length, drop, get_or, drop_of_length-le}
use lib.Seq.{drop-cons}
use Rattle.definition.specs.Bases.{same_bases}
use Rattle.definition.proofs.Tests.{same-equal}
use Rattle.sequences.proofs.Gathered.{gathered_next, gathered-all}

pub not_as_long : (xs ys : List ℕ) → (length xs ≡ length ys → ⊥) → same_bases xs ys ≡ false
not_as_long xs ys differ = go (same_bases xs ys) refl
  where
    go : (b : Bool) → same_bases xs ys ≡ b → same_bases xs ys ≡ false
    go true e = absurd (differ (ap length (same-equal xs ys e)))
    go false e = e

module _ (xs ys : List ℕ) (i : ℕ) (same : Bool) (decides : (same && same_bases (drop i xs) (drop i ys)) ≡ same_bases xs ys) where
  -- b is the second's base at i
  pub same_next : (b : ℕ) → i < length xs → i < length ys → b ≡ get_or ys i 0
      → ((same && eqb (get_or xs i 0) b) && same_bases (drop (i + 1) xs) (drop (i + 1) ys)) ≡ same_bases xs ys
  same_next b h k e =
      gathered_next (λ (j : ℕ). same_bases (drop j xs) (drop j ys)) i same decides (eqb (get_or xs i 0) b)
      (rw (drop-cons xs i 0 h, drop-cons ys i 0 k, add-one i, e))

  pub same-all : length xs ≤ i → length ys ≤ i → same ≡ same_bases xs ys
  same-all h k =
      gathered-all (λ (j : ℕ). same_bases (drop j xs) (drop j ys)) i same decides (rw (drop_of_length-le xs h, drop_of_length-le ys k))
