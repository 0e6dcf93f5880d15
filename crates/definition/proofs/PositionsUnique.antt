-- Each public contract decides its result: two results that it allows are equal. Assumes nothing.
use mathlib.Core.Path.{sym, ◌∙◌}
use Rattle.definition.proofs.Fixes.{Fixes}
use Rattle.definition.proofs.Zero.one_based.Reads as one-based
use Rattle.definition.proofs.Zero.before_gap.Reads as before-gap

pub one-based-one : Fixes (λ κs x at. x.0) one-based.Post
one-based-one κs a x y at_x at_y p q = p ∙ sym q

pub before-gap-one : Fixes (λ κs x at. x.0) before-gap.Post
before-gap-one κs a x y at_x at_y p q = p ∙ sym q
