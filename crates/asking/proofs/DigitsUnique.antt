-- The public contract decides the page and its count: two results that it allows for the same arguments are equal. Assumes nothing.
use Rattle.definition.proofs.Fixes.{Fixes}
use Rattle.asking.specs.Page.{shown}
use Rattle.asking.proofs.TerminalUnique.{one-page}
use Rattle.asking.proofs.terminal.Page.put_number.Reads as put-number

pub put-number-one-page : Fixes (λ κs x at. shown at.0.now) put-number.Post
put-number-one-page κs a x y at_x at_y p q = one-page p q
