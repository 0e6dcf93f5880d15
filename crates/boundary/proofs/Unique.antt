-- Each public contract decides its result: two results that it allows are equal. Assumes nothing.
use mathlib.Core.Path.{sym, ◌∙◌}
use Rattle.definition.proofs.Fixes.{Fixes}
use Rattle.boundary.proofs.get_boundary.Reads as get-boundary

pub get-boundary-one : Fixes (λ κs x at. x) get-boundary.Post
get-boundary-one κs a x y at_x at_y p q = p ∙ sym q
