-- Each public contract decides its result: two results that it allows are equal. Assumes nothing.
use mathlib.Core.Path.{sym, ◌∙◌}
use Rattle.definition.proofs.Fixes.{Fixes}
use Rattle.sequences.proofs.reach.common.Reads as common
use Rattle.sequences.proofs.reach.common_end.Reads as common-end

pub common-one : Fixes (λ κs x at. x) common.Post
common-one κs a x y at_x at_y p q = p ∙ sym q

pub common-end-one : Fixes (λ κs x at. x) common-end.Post
common-end-one κs a x y at_x at_y p q = p ∙ sym q
