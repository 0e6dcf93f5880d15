-- Each public contract decides its result: two results that it allows are equal. Assumes nothing.
use mathlib.Core.Path.{sym, ◌∙◌}
use Rattle.definition.proofs.Fixes.{Fixes}
use Rattle.normalizer.proofs.ranges.range_within.Reads as range-within

pub range-within-one : Fixes (λ κs x at. x) range-within.Post
range-within-one κs a x y at_x at_y p q = p ∙ sym q
