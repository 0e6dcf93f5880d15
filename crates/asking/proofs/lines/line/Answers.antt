use Rattle.std.proofs.Common.{◌∙◌, arith}
use Rattle.asking.proofs.LinesLaws.{next, done}
use Rattle.asking.proofs.lines.line.Goals as goal

pub loop-line-preserved : goal.loop-line-preserved
loop-line-preserved c =
    let at = c.loop-line in
    let after = c.after-from.ensures in
    (after.upper_bound.0, next c.args.text.now _ at._line at.from at.invariant.1 at.invariant.0 _ (omega arith) after.value)

pub returns : goal.returns
returns c =
    let at = c.loop-line in
    let found = c.find.ensures in
    record { is = c.part.ensures ∙ done c.args.text.now _ at._line at.from at.invariant.1 at.invariant.0 _ (omega arith) found.value found.upper_bound.0 }
