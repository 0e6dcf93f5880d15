-- The class at once of a replacement, read off the tests that the code makes; and what is answered with each. Assumes nothing.
use mathlib.Core.Path.{◌≡◌, refl, sym, ap, ◌∙◌}
use mathlib.Core.Bool.{Bool, true, false, ◌&&◌}
use mathlib.Core.List.{List}
use Rattle.std.specs.Prelude.{Option, None, Some}
use Prim.Native.Nat.{ℕ, ◌+◌, ◌-◌, ◌≤◌, ◌<◌}
use native.Mathlib.Omega.{arith}
use borrow.Author.Tests.{eq-eqb, ne_eqb, eqb-true}
use lib.Dec.{eqb}
use lib.ListN.{length, take, drop}
use lib.Seq.{slice, length-slice}
use Rattle.definition.specs.declared.Class.{Class}
use Rattle.definition.specs.declared.Class.TheVariants.{Unchanged, Replacement}
use Rattle.definition.specs.declared.Edit.{Edit}
use Rattle.definition.specs.declared.Edit.TheVariants.{Insert, Duplicate, Delete, Replace, Invert}
use Rattle.definition.specs.Bases.{same_bases}
use Rattle.definition.specs.Answer.{Named}
use Rattle.definition.specs.Verdict.{replaced_at_once, shortcut}
use Rattle.definition.proofs.Tests.{and-true}
use Rattle.definition.proofs.Parts.{lent-part}
use Rattle.normalizer.specs.Ways.{replaced_way, way_of, in_place}

-- the test over the lent part is one over the reference
pub tested : (target alternative : List ℕ) (start end : ℕ) {b : Bool} → b ≡ same_bases (take (end - start) (drop start target)) alternative
    → b ≡ same_bases (slice start end target) alternative
tested target alternative start end e = e ∙ ap (λ (x : List ℕ). same_bases x alternative) (lent-part start end target)

module _ (target alternative : List ℕ) (start end : ℕ) (ordered : start < end) (fits : end ≤ length target) where
  abbrev reference : List ℕ
  reference = slice start end target

  size : length reference ≡ end - start
  size = length-slice start end target fits

  pub way_same : same_bases reference alternative ≡ true → Some Unchanged ≡ replaced_way reference alternative
  unfolding replaced_way
  way_same e = rw e

  module _ (other : same_bases reference alternative ≡ false) where
    pub way_long : (end - start ≡ 1 → ⊥) → None ≡ replaced_way reference alternative
    unfolding replaced_way
    way_long d = rw (other, ne_eqb (length reference) 1 (λ z. d (sym size ∙ z)))

    pub way-many : end - start ≡ 1 → (length alternative ≡ 1 → ⊥) → None ≡ replaced_way reference alternative
    unfolding replaced_way
    way-many e d = rw (other, eq-eqb (length reference) 1 (size ∙ e), ne_eqb (length alternative) 1 d)

    pub way-single : end - start ≡ 1 → length alternative ≡ 1 → Some Replacement ≡ replaced_way reference alternative
    unfolding replaced_way
    way-single e f = rw (other, eq-eqb (length reference) 1 (size ∙ e), eq-eqb (length alternative) 1 f)

  -- what is named at once, by the class
  abbrev pub named_by : Option Class → Option Named
  named_by (Some class) = Some (in_place class target start end alternative)
  named_by None = None

  replaced-named : replaced_at_once start end reference alternative ≡ named_by (replaced_way reference alternative)
  unfolding replaced_at_once replaced_way
  replaced-named = go (same_bases reference alternative) (eqb (length reference) 1 && eqb (length alternative) 1) refl refl
    where
      go : (a b : Bool) → same_bases reference alternative ≡ a → (eqb (length reference) 1 && eqb (length alternative) 1) ≡ b
          → replaced_at_once start end reference alternative ≡ named_by (replaced_way reference alternative)
      go true b e f = rw e
      go false true e f =
          let one : length reference ≡ 1 = eqb-true (length reference) 1 (and-true (eqb (length reference) 1) (eqb (length alternative) 1) f).0 in
          let last : start + 1 ≡ end = omega (arith, size) in
          rw (e, f, last)
      go false false e f = rw (e, f)

  pub way-named : (edit : Edit) → shortcut edit target start end alternative ≡ named_by (way_of edit target start end alternative)
  unfolding way_of
  way-named Insert = refl
  way-named Duplicate = refl
  way-named Delete = refl
  way-named Replace = replaced-named
  way-named Invert = refl

-- what a replacement's tests say of its class at once
pub ruleset ways = (lent-part, way_same, way_long, way-many, way-single)
