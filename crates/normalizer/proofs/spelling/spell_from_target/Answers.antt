-- An inversion's bases are read back of a buffer, another edit's are a copy or none.
use Rattle.std.proofs.Common.{arith, [], refl, ap, ap₂, ◌∙◌}
use Rattle.definition.specs.declared.Edit.TheVariants.{Invert}
use Rattle.definition.specs.Bases.{reverse_complement}
use Rattle.definition.specs.Change.{spelled}
use Rattle.definition.proofs.Parts.{lent-part}
use Rattle.normalizer.proofs.Spells.{inverted-back, between, copies, reads_nothing, asks}
use Rattle.normalizer.proofs.spelling.spell_from_target.Goals as goal

pub moved-requires-clause-asked : goal.moved-requires-clause-asked
unfolding spelled
moved-requires-clause-asked c =
    let a = c.args.query.now in
    let v = c.revcomp-size in
    let back = inverted-back _ _ _ v.result v.ensures.count v.ensures.laid ∙ ap reverse_complement (lent-part a.range.start.0 a.range.end.0 a.target.now) in
    rw back (asks c.args.piece a.target.now a.range.start.0 a.range.end.0 a.window c.requires.ranged Invert [] (reads_nothing Invert a.range.start.0 a.range.end.0 refl))

pub returns-in-Invert-clause-met : goal.returns-in-Invert-clause-met
unfolding spelled
returns-in-Invert-clause-met c =
    let a = c.args.query.now in
    let v = c.revcomp-size in
    let back = inverted-back _ _ _ v.result v.ensures.count v.ensures.laid ∙ ap reverse_complement (lent-part a.range.start.0 a.range.end.0 a.target.now) in
    rw (c.in-Invert.is, ← back) c.moved.ensures.met

pub moved-requires-2 : goal.moved-requires-2
moved-requires-2 c =
    let a = c.args.query.now in
    let r = c.requires.ranged in
    let spelt = ap₂ between c.gaps_of-gaps.ensures c.copied-inserted.ensures
    ∙ copies a.target.now a.range.start a.range.end a.edit c.requires.reads_none c.in_default.not-Invert in
    record {
      asked = rw spelt (asks c.args.piece a.target.now a.range.start.0 a.range.end.0 a.window r a.edit [] (reads_nothing a.edit a.range.start.0 a.range.end.0 c.requires.reads_none));
      in_bounds = (omega (arith, r.ordered, r.in_target), r.short);
      room = c.requires.room;
    }

pub returns-clause-met : goal.returns-clause-met
returns-clause-met c =
    let a = c.args.query.now in
    let spelt = ap₂ between c.gaps_of-gaps.ensures c.copied-inserted.ensures
    ∙ copies a.target.now a.range.start a.range.end a.edit c.requires.reads_none c.in_default.not-Invert in
    rw spelt at c.moved-2.ensures.met
