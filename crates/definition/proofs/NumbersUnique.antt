-- Each public contract decides its result: two results that it allows are equal. Assumes nothing.
use mathlib.Core.Path.{sym, ◌∙◌}
use Rattle.definition.proofs.Fixes.{Fixes}
use Rattle.definition.proofs.Refusal.number.Reads as refusal-number
use Rattle.definition.proofs.Class.number.Reads as class-number

pub refusal-number-one : Fixes (λ κs x at. x) refusal-number.Post
refusal-number-one κs a x y at_x at_y p q = p ∙ sym q

pub class-number-one : Fixes (λ κs x at. x) class-number.Post
class-number-one κs a x y at_x at_y p q = p ∙ sym q
