-- The contract of `normalize` allows one answer: any two that it allows for the same request are equal, the numbers and every byte of both buffers,
-- accepted or refused. Assumes nothing.
use mathlib.Core.Path.{sym, ◌∙◌}
use Rattle.definition.proofs.Fixes.{Fixes}
use Rattle.normalizer.proofs.normalize.Reads as normalize

pub normalize-one-outcome : Fixes (λ κs x at. x) normalize.Post
normalize-one-outcome κs a x y at_x at_y p q = p.numbers ∙ sym q.numbers

pub normalize-one-reference : Fixes (λ κs x at. at.1.1.1.1.1.1.1.1.1.1.1.0.now) normalize.Post
normalize-one-reference κs a x y at_x at_y p q = p.reference_buffer ∙ sym q.reference_buffer

pub normalize-one-alternative : Fixes (λ κs x at. at.1.1.1.1.1.1.1.1.1.1.1.1.0.now) normalize.Post
normalize-one-alternative κs a x y at_x at_y p q = p.alternative_buffer ∙ sym q.alternative_buffer
