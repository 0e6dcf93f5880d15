-- The three puts are one.
use Rattle.asking.proofs.Pages.{then}
use Rattle.asking.proofs.values.put_range.Goals as goal

pub returns : goal.returns
returns c = then (then c.put_number.ensures c.put.ensures) c.put_number-2.ensures
