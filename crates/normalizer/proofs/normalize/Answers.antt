-- What was read of the range, and the rest over it. The row's law goes into `rw` by its bare name: what it asks of the rows before is found among the
-- facts bound above it.
use Rattle.std.proofs.Common.{length, sym, ap, not, ◌∙◌, rules}
use Rattle.std.proofs.lemmas.Int.{to_z-of_z}
use Rattle.std.proofs.lemmas.Result.{err_from_is_err_and}
use Rattle.definition.specs.Verdict.{bad_code, bad_window, bad_target, bad_base}
use Rattle.definition.proofs.Tests.{none-gives}
use Rattle.normalizer.specs.Asked.{asked}
use Rattle.normalizer.proofs.Answers.{refused-met}
use Rattle.normalizer.proofs.Rows.{row-5, past-reading, read-outside, read-within, read-ordered, target-short, window-inside}
use Rattle.normalizer.proofs.normalize.Goals as goal

pub normalize_range-requires : goal.normalize_range-requires
normalize_range-requires c =
    let a = c.args in
    let r = asked a.target.now a.kind a.exons.now a.cds_start a.cds_end a.start a.end a.edit a.alternative.now
    a.direction a.window (length a.reference_out.now) (length a.alternative_out.now) in
    let read = simp (to_z-of_z, c.ranges.start, c.ranges.end) at c.range_within-read.ensures in
    let ordered = read-ordered r _ read _ c.in_ok-range.ensures.ok_part in
    let window = window-inside a.window (sym c.bad_window.ensures ∙ c.in_ok-refuse_if-2.ensures) in
    record {
      ordered = ordered.0;
      in_target = ordered.1;
      short = target-short (length a.target.now) (sym c.bad_target.ensures ∙ c.in_ok-refuse_if-3.ensures);
      some = window.0;
      most = window.1;
    }

pub returns-in_err-range : goal.returns-in_err-range
unfolding bad_code bad_window bad_target bad_base
returns-in_err-range c =
    let a = c.args in
    let r = asked a.target.now a.kind a.exons.now a.cds_start a.cds_end a.start a.end a.edit a.alternative.now
    a.direction a.window (length a.reference_out.now) (length a.alternative_out.now) in
    let codes = sym c.bad_code.ensures ∙ c.in_ok-refuse_if.ensures in
    let window = sym c.bad_window.ensures ∙ c.in_ok-refuse_if-2.ensures in
    let size = sym c.bad_target.ensures ∙ c.in_ok-refuse_if-3.ensures in
    let bases = ap not (sym c.all_bases.ensures) ∙ c.in_ok-refuse_if-4.ensures in
    let p = err_from_is_err_and c.from_residual-in_err-range.result c.from_residual-in_err-range.ensures.1 in
    let none = c.in_err-range.ensures in
    let read = simp (to_z-of_z, c.ranges.start, c.ranges.end) at c.range_within-read.ensures in
    let outside = read-outside r _ read none.ok_part in
    rw (p.1, p.2, none-gives none.value none.ok_part, row-5) (refused-met _ _ _)

pub returns : goal.returns
unfolding bad_code bad_window bad_target bad_base
returns c =
    let a = c.args in
    let r = asked a.target.now a.kind a.exons.now a.cds_start a.cds_end a.start a.end a.edit a.alternative.now
    a.direction a.window (length a.reference_out.now) (length a.alternative_out.now) in
    let codes = sym c.bad_code.ensures ∙ c.in_ok-refuse_if.ensures in
    let window = sym c.bad_window.ensures ∙ c.in_ok-refuse_if-2.ensures in
    let size = sym c.bad_target.ensures ∙ c.in_ok-refuse_if-3.ensures in
    let bases = ap not (sym c.all_bases.ensures) ∙ c.in_ok-refuse_if-4.ensures in
    let read = simp (to_z-of_z, c.ranges.start, c.ranges.end) at c.range_within-read.ensures in
    let within = read-within r _ read _ c.in_ok-range.ensures.ok_part in
    rw (past-reading r _ _ _ _ _ _ _ c.kind_of.ensures
    (simp (to_z-of_z, c.ranges.cds_start) at c.bound_of.ensures)
    (simp (to_z-of_z, c.ranges.cds_end) at c.bound_of-2.ensures)
    within.1 within.2 c.edit_of.ensures c.direction_of.ensures codes window size bases within.0)
    (search rules)
