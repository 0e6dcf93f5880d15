-- Each public contract decides its result: two results that it allows are equal. Assumes nothing.
use mathlib.Core.Path.{sym, ◌∙◌}
use Rattle.definition.proofs.Fixes.{Fixes}
use Rattle.boundary.proofs.pieces.piece_for.Reads as piece-for

pub piece-for-one : Fixes (λ κs x at. x) piece-for.Post
piece-for-one κs a x y at_x at_y p q = p ∙ sym q
