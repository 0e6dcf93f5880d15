-- The public contract allows one answer: the numbers and every byte of both buffers. Assumes nothing.
use mathlib.Core.Path.{sym, ◌∙◌}
use Rattle.definition.proofs.Fixes.{Fixes}
use Rattle.normalizer.proofs.spelling.spell.Reads as spell

pub spell-one-outcome : Fixes (λ κs x at. x) spell.Post
spell-one-outcome κs a x y at_x at_y p q = p.0.numbers ∙ sym q.0.numbers

pub spell-one-reference : Fixes (λ κs x at. at.1.1.0.now.reference.now) spell.Post
spell-one-reference κs a x y at_x at_y p q = p.0.reference_buffer ∙ sym q.0.reference_buffer

pub spell-one-alternative : Fixes (λ κs x at. at.1.1.0.now.alternative.now) spell.Post
spell-one-alternative κs a x y at_x at_y p q = p.0.alternative_buffer ∙ sym q.0.alternative_buffer
