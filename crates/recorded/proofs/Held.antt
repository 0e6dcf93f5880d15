-- A buffer that holds an allele, and behind it what filled the buffer: its length, and the test for it. Assumes nothing.
use Prim.Native.Nat.{ℕ, ◌+◌, ◌-◌, ◌<◌}
use native.Mathlib.Omega.{arith}
use mathlib.Core.Path.{◌≡◌, refl, ap, sym, ◌∙◌}
use mathlib.Core.Bool.{Bool, false, ◌&&◌}
use mathlib.Core.List.{List, [], ◌∷◌}
use lib.Pointwise.{pointwise}
use Rattle.std.specs.Prelude.{nat_eq}
use borrow.Author.Tests.{eq-eqb, ne_eqb}
use lib.ListN.{length, drop, length-append, length-drop, length-replicate}
use Rattle.definition.specs.Bases.{same_bases}
use Rattle.definition.specs.Limits.{answer_room}
use Rattle.definition.specs.Reply.{written}
use Rattle.sequences.proofs.SameBases.{not_as_long}
use Rattle.recorded.specs.Replay.{filled, holds_allele}

pub filled-length : length filled ≡ answer_room
unfolding filled
filled-length = length-replicate {A = ℕ} answer_room 46

pub pointwise-same : (xs ys : List ℕ) → pointwise nat_eq xs ys ≡ same_bases xs ys
pointwise-same [] [] = refl
pointwise-same [] (y ∷ ys) = refl
pointwise-same (x ∷ xs) [] = refl
pointwise-same (x ∷ xs) (y ∷ ys) = ap (λ rest. nat_eq x y && rest) (pointwise-same xs ys)

module _ (allele : List ℕ) where
  pub written-length : length (written allele filled) ≡ length allele + (answer_room - length allele)
  unfolding written
  written-length = rw (length-append allele (drop (length allele) filled), length-drop (length allele) filled, filled-length)

  module _ (buffer : List ℕ) (size : ℕ) where
    pub other-size : (length allele ≡ size → ⊥) → false ≡ holds_allele buffer size allele
    unfolding holds_allele
    other-size h = rw (ne_eqb (length allele) size h)

    pub tested : length allele ≡ size → {same : Bool} → same ≡ same_bases buffer (written allele filled) → same ≡ holds_allele buffer size allele
    unfolding holds_allele
    tested h e = rw (eq-eqb (length allele) size h) e

    pub too_long : length buffer ≡ answer_room → answer_room < size → length allele ≡ size → false ≡ holds_allele buffer size allele
    too_long b h e =
        let long = written-length in
        tested e (sym (not_as_long buffer (written allele filled) (λ same. omega arith)))

    pub compared : length allele ≡ size → {same : Bool} (expected : List ℕ) → expected ≡ written allele filled → same ≡ pointwise nat_eq buffer expected
        → same ≡ holds_allele buffer size allele
    compared h expected e same = tested h (same ∙ pointwise-same buffer expected ∙ ap (same_bases buffer) e)
