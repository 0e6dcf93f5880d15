-- The public contract decides its result, and every byte of the target: two results that it allows are equal. Assumes nothing.
use mathlib.Core.Path.{sym, ◌∙◌}
use Rattle.definition.proofs.Fixes.{Fixes}
use Rattle.asking.proofs.targets.read.Reads as read

pub read_one : Fixes (λ κs x at. x) read.Post
read_one κs a x y at_x at_y p q = p.0 ∙ sym q.0

pub read-one-target : Fixes (λ κs x at. at.1.1.1.1.0.now) read.Post
read-one-target κs a x y at_x at_y p q = p.1 ∙ sym q.1
