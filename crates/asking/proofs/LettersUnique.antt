-- The public contract decides its result: two results that it allows are equal, and so is every byte of the buffer. Assumes nothing.
use mathlib.Core.Path.{sym, ◌∙◌}
use Rattle.definition.proofs.Fixes.{Fixes}
use Rattle.asking.proofs.letters.read_letters.Reads as read_letters

pub read-letters-one : Fixes (λ κs x at. x) read_letters.Post
read-letters-one κs a x y at_x at_y p q = p.0 ∙ sym q.0

pub read-letters-one-target : Fixes (λ κs x at. at.1.0.now) read_letters.Post
read-letters-one-target κs a x y at_x at_y p q = p.1 ∙ sym q.1
