-- Two stretches of bases compared from the front, up to the first pair that differs: what the rests from i on say, the whole says.
-- Assumes nothing.
use Prim.Native.Nat.{ℕ, ◌+◌, ◌≤◌, ◌<◌}
use mathlib.Core.Path.{◌≡◌}
use mathlib.Core.Bool.{true, false, ◌&&◌}
use mathlib.Core.List.{List}
use borrow.Author.Tests.{eq-eqb, ne_eqb}
use lib.Dec.{eqb}
use lib.ListN.{length, drop, get_or}
use Rattle.definition.specs.Bases.{same_bases}
use Rattle.alleles.proofs.Laws.{window-length, window-at}
use Rattle.sequences.proofs.SameBases.{same_next, same-all}

module _ (xs ys : List ℕ) (i : ℕ) (rests : same_bases (drop i xs) (drop i ys) ≡ same_bases xs ys) where
  -- b is the second's base at i
  module _ (b : ℕ) (h : i < length xs) (k : i < length ys) (is : b ≡ get_or ys i 0) where
    pair : (eqb (get_or xs i 0) b && same_bases (drop (i + 1) xs) (drop (i + 1) ys)) ≡ same_bases xs ys
    pair = same_next xs ys i true rests b h k is

    pub compared-next : get_or xs i 0 ≡ b → same_bases (drop (i + 1) xs) (drop (i + 1) ys) ≡ same_bases xs ys
    compared-next e = rw (eq-eqb (get_or xs i 0) b e) at pair

    pub compared-differ : (get_or xs i 0 ≡ b → ⊥) → false ≡ same_bases xs ys
    compared-differ e = rw (ne_eqb (get_or xs i 0) b e) at pair

  pub compared-all : length xs ≤ i → length ys ≤ i → true ≡ same_bases xs ys
  compared-all h k = same-all xs ys i true rests h k

pub ruleset compared = (compared-next, compared-differ, compared-all, window-length, window-at)
