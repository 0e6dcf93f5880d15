-- The part is the digits.
use Rattle.std.proofs.Common.{ap, ◌∙◌}
use Rattle.asking.specs.Decimal.{decimal_of}
use Rattle.asking.specs.Runs.{or_once}
use Rattle.asking.proofs.Marks.{digits-part}
use Rattle.asking.proofs.runs.count_at.Goals as goal

pub returns : goal.returns
returns c =
    let ends = c.digits_end in
    let digits = c.part.ensures ∙ digits-part c.args.field.now c.args.from ends.result ends.ensures.value ends.ensures.upper_bound in
    c.unwrap_or.ensures ∙ ap or_once (c.decimal.ensures ∙ ap decimal_of digits)
