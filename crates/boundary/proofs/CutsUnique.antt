-- The public contract decides its result: two results that it allows are equal. Assumes nothing.
use mathlib.Core.Path.{sym, ◌∙◌}
use Rattle.definition.proofs.Fixes.{Fixes}
use Rattle.boundary.proofs.cuts.cut_at.Reads as cut_at

pub cut-at-one : Fixes (λ κs x at. x) cut_at.Post
cut-at-one κs a x y at_x at_y p q = p ∙ sym q
