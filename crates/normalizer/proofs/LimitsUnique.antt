-- Each public contract decides its result: two results that it allows are equal. Assumes nothing.
use mathlib.Core.Path.{sym, ◌∙◌}
use Rattle.definition.proofs.Fixes.{Fixes}
use Rattle.normalizer.proofs.limits.bad_code.Reads as bad-code
use Rattle.normalizer.proofs.limits.bad_window.Reads as bad-window
use Rattle.normalizer.proofs.limits.bad_target.Reads as bad-target
use Rattle.normalizer.proofs.limits.no_room.Reads as no_room

pub bad-code-one : Fixes (λ κs x at. x) bad-code.Post
bad-code-one κs a x y at_x at_y p q = p ∙ sym q

pub bad-window-one : Fixes (λ κs x at. x) bad-window.Post
bad-window-one κs a x y at_x at_y p q = p ∙ sym q

pub bad-target-one : Fixes (λ κs x at. x) bad-target.Post
bad-target-one κs a x y at_x at_y p q = p ∙ sym q

pub no-room-one : Fixes (λ κs x at. x) no_room.Post
no-room-one κs a x y at_x at_y p q = p ∙ sym q
