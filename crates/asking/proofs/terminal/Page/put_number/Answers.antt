use Rattle.std.proofs.Common.{◌∙◌}
use Rattle.asking.proofs.Pages.{same_text}
use Rattle.asking.proofs.DigitsLaws.{is_decimal}
use Rattle.asking.proofs.terminal.Page.put_number.Goals as goal

pub returns : goal.returns
returns c = same_text (c.as_bytes.ensures.value ∙ c.format.ensures.text ∙ is_decimal c.args.number c.ranges.number.fits) c.put.ensures
