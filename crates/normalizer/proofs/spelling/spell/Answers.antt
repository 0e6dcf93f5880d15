-- The bases that an edit puts in are the alternative, or the target's.
use Rattle.std.proofs.Common.{sym, ap, ◌∙◌}
use Rattle.normalizer.specs.declared.spelling.Gaps.{Gaps}
use Rattle.normalizer.proofs.Spells.{between, read, unread, asks}
use Rattle.normalizer.proofs.spelling.spell.Goals as goal

pub returns-then-not-reads_alternative-clause-met : goal.returns-then-not-reads_alternative-clause-met
returns-then-not-reads_alternative-clause-met c =
    let a = c.args.query.now in
    rw (unread a.target.now a.range.start a.range.end a.alternative.now a.edit (sym c.if-not-reads_alternative.ensures)) at c.spell_from_target.ensures.met

pub moved-requires-clause-asked : goal.moved-requires-clause-asked
moved-requires-clause-asked c =
    let a = c.args.query.now in
    let spelt = ap (λ (gaps : Gaps). between gaps a.alternative.now) c.gaps_of-gaps.ensures
    ∙ read a.target.now a.range.start a.range.end a.alternative.now a.edit (sym c.if-not-reads_alternative.ensures) in
    rw spelt (asks c.args.piece a.target.now a.range.start.0 a.range.end.0 a.window c.requires.ranged a.edit a.alternative.now c.requires.read)

pub returns-clause-met : goal.returns-clause-met
returns-clause-met c =
    let a = c.args.query.now in
    let spelt = ap (λ (gaps : Gaps). between gaps a.alternative.now) c.gaps_of-gaps.ensures
    ∙ read a.target.now a.range.start a.range.end a.alternative.now a.edit (sym c.if-not-reads_alternative.ensures) in
    rw spelt at c.moved.ensures.met
