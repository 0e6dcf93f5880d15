-- Where rows 1 to 5 leave a request: refused by one, or past it. Assumes nothing.
use mathlib.Core.Path.{◌≡◌, refl, sym, ap, ◌∙◌}
use mathlib.Core.Bool.{Bool, true, false, cond}
use Prim.Native.Nat.{ℕ, ◌≤◌, ◌<◌}
use native.Mathlib.Omega.{arith}
use borrow.Author.Tests.{leb-false, ltb-false, eqb-false}
use lib.Dec.{eqb, leb, ltb}
use lib.ListN.{length}
use Rattle.definition.specs.declared.Bound.{Bound}
use Rattle.definition.specs.declared.Edit.{Edit}
use Rattle.definition.specs.declared.Kind.{Kind}
use Rattle.definition.specs.declared.Direction.{Direction}
use Rattle.definition.specs.declared.Refusal.TheVariants.{BadCode, BadWindow, BadTarget, BadBase, CoordinatesOutOfBounds}
use Rattle.definition.specs.declared.Zero.{Zero}
use Rattle.definition.specs.declared.Range.{Range}
use Rattle.normalizer.specs.Range.{range_from, ordered_range, range_of, range_read}
use Rattle.normalizer.proofs.RangesRead.{range_read_off}
use Rattle.definition.specs.Request.{Request, coordinate_of, kind_of, edit_of, direction_of, bound_of, start_of, end_of, change_of}
use Rattle.definition.specs.Limits.{longest_window, longest_target}
use Rattle.definition.specs.Verdict.{verdict, refused, rows, request_rows, target_rows, change_rows, bad_code, bad_window, bad_target}
use Rattle.definition.specs.Verdict.{bad_base, out_of_bounds, bad_insertion, too_long, bad_allele, no_room, bad_tables, answer_in}
use Rattle.definition.specs.Verdict.{answered_at_once, piece_of, refused_or, size_outside, window_outside}
use Rattle.definition.proofs.Tests.{or-false, none-some}
use Rattle.normalizer.specs.Passed.{range_verdict}
use Rattle.std.specs.Prelude.{None, Option, Some}

module _ (r : Request) where
  pub row-1 : bad_code r ≡ true → verdict r ≡ refused BadCode
  unfolding verdict rows request_rows target_rows refused_or
  row-1 e = rw e

  module _ (e₁ : bad_code r ≡ false) where
    pub row-2 : bad_window r ≡ true → verdict r ≡ refused BadWindow
    unfolding verdict rows request_rows target_rows refused_or
    row-2 e = rw (e₁, e)

    module _ (e₂ : bad_window r ≡ false) where
      pub row-3 : bad_target r ≡ true → verdict r ≡ refused BadTarget
      unfolding verdict rows request_rows target_rows refused_or
      row-3 e = rw (e₁, e₂, e)

      module _ (e₃ : bad_target r ≡ false) where
        pub row-4 : bad_base r ≡ true → verdict r ≡ refused BadBase
        unfolding verdict rows request_rows target_rows refused_or
        row-4 e = rw (e₁, e₂, e₃, e)

        module _ (e₄ : bad_base r ≡ false) where
          pub row-5 : out_of_bounds r ≡ true → verdict r ≡ refused CoordinatesOutOfBounds
          unfolding verdict rows request_rows target_rows change_rows refused_or
          row-5 e = rw (e₁, e₂, e₃, e₄, e)

          -- past row 5 the range is two numbers, and what is left speaks of them
          pub past-row-5 : out_of_bounds r ≡ false
              → range_verdict r.target (kind_of r.kind_code) r.exon_bytes (bound_of r.cds_start) (bound_of r.cds_end) (start_of r) (end_of r)
              (edit_of r.edit_code) r.alternative (direction_of r.direction_code) r.reference_room r.alternative_room
              ≡ verdict r
          unfolding verdict rows request_rows target_rows change_rows bad_insertion too_long bad_allele no_room bad_tables answer_in answered_at_once piece_of
              change_of range_verdict
          past-row-5 e = rw (e₁, e₂, e₃, e₄, e)

-- what the rows that were passed say
pub target-short : (size : ℕ) → size_outside size ≡ false → size ≤ longest_target
target-short size e = ltb-false longest_target size (or-false (eqb size 0) (ltb longest_target size) e).1

pub window-inside : (window : ℕ) → window_outside window ≡ false → (1 ≤ window) × (window ≤ longest_window)
window-inside window e =
    let h = or-false (eqb window 0) (ltb longest_window window) e in
    let d : window ≡ 0 → ⊥ = eqb-false window 0 h.0 in
    (omega (arith, d), ltb-false longest_window window h.1)

-- what the range that was read says of row 5
range-outside : (t : Bool) (x : Range) → cond t None (Some x) ≡ None → t ≡ true
range-outside true x e = refl
range-outside false x e = absurd (none-some (sym e))

range_inside : (t : Bool) (x y : Range) → cond t None (Some x) ≡ Some y → (t ≡ false) × (y ≡ x)
range_inside true x y e = absurd (none-some e)
range_inside false x y e =
    let f : y ≡ x = cc in
    (refl, f)

ordered-facts : (from to : Zero) (size : ℕ) (x : Range) → ordered_range from to size ≡ Some x → (x.start.0 < x.end.0) × (x.end.0 ≤ size)
ordered-facts from to size x e = go (leb to.0 from.0) (ltb size to.0) refl refl
  where
    go : (s t : Bool) → leb to.0 from.0 ≡ s → ltb size to.0 ≡ t → (x.start.0 < x.end.0) × (x.end.0 ≤ size)
    go true t f g = absurd (none-some (rw f at e))
    go false true f g = absurd (none-some (rw (f, g) at e))
    go false false f g =
        let h : ◌≡◌ {A = Option Range} (Some (range_from from to)) (Some x) = rw (f, g) at e in
        let i : range_from from to ≡ x = cc in
        let k : from.0 ≡ x.start.0 = ap (λ (w : Range). w.start.0) i in
        let l : to.0 ≡ x.end.0 = ap (λ (w : Range). w.end.0) i in
        (omega (arith, leb-false to.0 from.0 f), omega (arith, ltb-false size to.0 g))

range-facts : (first last : Option Zero) (size : ℕ) (x : Range) → range_of first last size ≡ Some x → (x.start.0 < x.end.0) × (x.end.0 ≤ size)
range-facts (Some from) (Some to) size x e = ordered-facts from to size x e
range-facts (Some from) None size x e = absurd (none-some e)
range-facts None last size x e = absurd (none-some e)

module _ (r : Request) (found : Option Range) (e : found ≡ range_read r.range_start r.range_end (length r.target)) where
  pub read-outside : found ≡ None → out_of_bounds r ≡ true
  unfolding range_read out_of_bounds
  read-outside o = range-outside _ _ (sym e ∙ o)

  pub read-within : (x : Range) → found ≡ Some x → (out_of_bounds r ≡ false) × (x.start.0 ≡ start_of r) × (x.end.0 ≡ end_of r)
  unfolding range_read out_of_bounds start_of end_of
  read-within x w =
      let i = range_inside _ _ x (sym e ∙ w) in
      (i.0, ap (λ (z : Range). z.start.0) i.1, ap (λ (z : Range). z.end.0) i.1)

  pub read-ordered : (x : Range) → found ≡ Some x → (x.start.0 < x.end.0) × (x.end.0 ≤ length r.target)
  read-ordered x w =
      range-facts (coordinate_of r.range_start) (coordinate_of r.range_end) (length r.target) x
      (range_read_off r.range_start r.range_end (length r.target) ∙ sym e ∙ w)

-- past row 5, in the words of what was read of the request
pub past-reading : (r : Request) (kind : Kind) (a b : Bound) (start end : ℕ) (edit : Edit) (direction : Direction)
    → kind ≡ kind_of r.kind_code → a ≡ bound_of r.cds_start → b ≡ bound_of r.cds_end → start ≡ start_of r → end ≡ end_of r
    → edit ≡ edit_of r.edit_code → direction ≡ direction_of r.direction_code
    → bad_code r ≡ false → bad_window r ≡ false → bad_target r ≡ false → bad_base r ≡ false → out_of_bounds r ≡ false
    → verdict r ≡ range_verdict r.target kind r.exon_bytes a b start end edit r.alternative direction r.reference_room r.alternative_room
past-reading r kind a b start end edit direction ek ea eb es ee ed ef e₁ e₂ e₃ e₄ e₅ =
    rw (ek, ea, eb, es, ee, ed, ef) (sym (past-row-5 r e₁ e₂ e₃ e₄ e₅))
