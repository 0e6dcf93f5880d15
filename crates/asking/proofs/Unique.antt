-- The contract decides what words reach: two results that it allows are equal, and so is every byte of both buffers. Assumes nothing.
use mathlib.Core.Path.{sym, ◌∙◌}
use Rattle.definition.proofs.Fixes.{Fixes}
use Rattle.asking.proofs.ask.Reads as ask

pub ask-one : Fixes (λ κs x at. x) ask.Post
ask-one κs a x y at_x at_y p q = p.reached ∙ sym q.reached

pub ask-one-reference : Fixes (λ κs x at. at.1.1.0.now) ask.Post
ask-one-reference κs a x y at_x at_y p q = p.reference_buffer ∙ sym q.reference_buffer

pub ask-one-alternative : Fixes (λ κs x at. at.1.1.1.0.now) ask.Post
ask-one-alternative κs a x y at_x at_y p q = p.alternative_buffer ∙ sym q.alternative_buffer
