use Rattle.std.proofs.Common.{arith, length, ap, sym, ◌∙◌, rules}
use Rattle.definition.specs.Verdict.{after_shortcuts, after_piece}
use Rattle.definition.specs.Reply.{outcome_of, reference_out, alternative_out, written}
use Rattle.definition.proofs.Tests.{none-some}
use Rattle.normalizer.proofs.Ways.{way-named}
use Rattle.normalizer.proofs.InPlace.{way-reads}
use Rattle.normalizer.proofs.Answers.{ranged}
use Rattle.normalizer.proofs.verdicts.answer_passed.Goals as goal

pub answer_in_place-requires-clause-alleles : goal.answer_in_place-requires-clause-alleles
answer_in_place-requires-clause-alleles c =
    let a = c.args.query.now in
    let read = way-reads a.edit a.target.now a.range.start.0 a.range.end.0 a.alternative.now (λ e. none-some (sym (c.in-Some.ensures ∙ e))) in
    (c.requires.passed.range, omega (arith, c.requires.passed.read.size, ap length read))

pub spell-requires-clause-ranged : goal.spell-requires-clause-ranged
spell-requires-clause-ranged c = ranged c.requires.passed c.args.query.now.cds.start c.args.query.now.cds.end c.in_ok-piece.piece (sym c.in_ok-piece.ensures)

pub returns-in-Some-clause-met : goal.returns-in-Some-clause-met
unfolding after_shortcuts
returns-in-Some-clause-met c =
    let a = c.args.query.now in
    let p = c.requires.passed in
    rw (way-named a.target.now a.alternative.now a.range.start.0 a.range.end.0 p.ordered p.in_target a.edit, ← c.in-Some.ensures) c.answer_in_place.ensures.met

pub returns-clause-met : goal.returns-clause-met
unfolding after_shortcuts after_piece
returns-clause-met c =
    let a = c.args.query.now in
    let p = c.requires.passed in
    rw (way-named a.target.now a.alternative.now a.range.start.0 a.range.end.0 p.ordered p.in_target a.edit, ← c.in_default.ensures, ← c.in_ok-piece.ensures) c.spell.ensures.met

pub returns-in_err-piece-clause-met : goal.returns-in_err-piece-clause-met
unfolding after_shortcuts after_piece outcome_of reference_out alternative_out written
returns-in_err-piece-clause-met c =
    let a = c.args.query.now in
    let p = c.requires.passed in
    rw (way-named a.target.now a.alternative.now a.range.start.0 a.range.end.0 p.ordered p.in_target a.edit, ← c.in_default.ensures, ← c.in_err-piece.ensures)
    (search rules)
