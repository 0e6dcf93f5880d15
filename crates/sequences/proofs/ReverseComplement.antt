-- The reverse complement: which base stands at each place. Assumes nothing.
use Prim.Native.Nat.{ℕ, suc, ◌-◌, ◌<◌}
use native.Mathlib.Omega.{arith}
use native.Mathlib.Nat.{eq-or-lt_of_le}
use mathlib.Core.Logic.{⊎_elim}
use mathlib.Core.Path.{◌≡◌, ◌∙◌}
use mathlib.Core.List.{List, [], ◌∷◌, ◌++◌, map, reverse, reverse-cons}
use lib.ListN.{length, get_or, length-map, length-reverse, get_or-append, get_or-map}
use lib.Seq.{get_or_at}
use Rattle.definition.proofs.Tests.{length-reverse-complement}
use Rattle.definition.proofs.Laid.{laid_more, laid_done}
use Rattle.definition.specs.Bases.{complement, reverse_complement}

-- the last of a reversed list is the first, and those before it are the rest reversed
pub get_d_reverse : (xs : List ℕ) (i : ℕ) → i < length xs → get_or (reverse xs) i 0 ≡ get_or xs (length xs - 1 - i) 0
get_d_reverse [] i h = absurd (omega arith)
get_d_reverse (x ∷ xs) i h = rw (reverse-cons x xs) (⊎_elim last (λ l. earlier l (get_d_reverse xs i l)) (eq-or-lt_of_le (omega arith)))
  where
    last : i ≡ length xs → get_or (reverse xs ++ (x ∷ [])) i 0 ≡ get_or (x ∷ xs) (suc (length xs) - 1 - i) 0
    last e =
        let z : suc (length xs) - 1 - i ≡ 0 = omega arith in
        rw z (get_or_at (reverse xs) x [] 0 i (omega (arith, length-reverse xs)))

    earlier : i < length xs → get_or (reverse xs) i 0 ≡ get_or xs (length xs - 1 - i) 0
        → get_or (reverse xs ++ (x ∷ [])) i 0 ≡ get_or (x ∷ xs) (suc (length xs) - 1 - i) 0
    earlier l rest =
        let z : suc (length xs) - 1 - i ≡ suc (length xs - 1 - i) = omega arith in
        rw z (get_or-append (reverse xs) (x ∷ []) 0 i (omega (arith, length-reverse xs)) ∙ rest)

pub reverse-complement-at : (xs : List ℕ) (i : ℕ) → i < length xs → get_or (reverse_complement xs) i 0 ≡ complement (get_or xs (length xs - 1 - i) 0)
unfolding reverse_complement complement
reverse-complement-at xs i h =
    get_d_reverse (map complement xs) i (rw length-map h)
    ∙ rw length-map (get_or-map complement xs (length xs - 1 - i) 0)

pub ruleset laid = (laid_more, laid_done, length-reverse-complement, reverse-complement-at)
