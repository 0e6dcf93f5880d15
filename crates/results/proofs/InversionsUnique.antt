-- The public contract decides its result: two results that it allows are equal. Assumes nothing.
use mathlib.Core.Path.{sym, ◌∙◌}
use Rattle.definition.proofs.Fixes.{Fixes}
use Rattle.results.proofs.inversions.is_inversion.Reads as is-inversion

pub is-inversion-one : Fixes (λ κs x at. x) is-inversion.Post
is-inversion-one κs a x y at_x at_y p q = p ∙ sym q
