-- What the public contract fixes of a text: any two results that it allows for the same arguments are equal, the size and every byte. Assumes nothing.
use Rattle.definition.proofs.Fixes.{Fixes}
use Rattle.asking.specs.Page.{shown}
use Rattle.asking.proofs.TerminalUnique.{one-page}
use Rattle.asking.proofs.runs.expand.Reads as expand

pub expand-one-text : Fixes (λ κs x at. shown at.1.1.0.now) expand.Post
expand-one-text κs a x y at_x at_y p q = one-page p q
