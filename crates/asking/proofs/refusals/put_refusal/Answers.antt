-- The four puts are one.
use Rattle.std.proofs.Common.{ap, ◌∙◌}
use Rattle.asking.specs.Digits.{decimal_text}
use Rattle.asking.proofs.Pages.{then, same_text}
use Rattle.asking.proofs.refusals.put_refusal.Goals as goal

pub returns : goal.returns
returns c =
    let number = same_text (ap decimal_text c.number.ensures) c.put_number.ensures in
    let name = same_text (c.as_bytes.ensures.value ∙ c.refusal_name.ensures) c.put-3.ensures in
    then (then (then c.put.ensures number) c.put-2.ensures) name
