-- The contract of `in_numbers` decides its result: two results that it allows are equal. Assumes nothing.
use mathlib.Core.Path.{sym, ◌∙◌}
use Rattle.definition.proofs.Fixes.{Fixes}
use Rattle.normalizer.proofs.replies.in_numbers.Reads as in-numbers

pub in-numbers-one : Fixes (λ κs x at. x) in-numbers.Post
in-numbers-one κs a x y at_x at_y p q = p ∙ sym q
