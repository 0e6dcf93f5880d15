-- Each public contract allows one answer: the numbers that come back and every byte that is written. Assumes nothing.
use mathlib.Core.Path.{sym, ◌∙◌}
use Rattle.definition.proofs.Fixes.{Fixes}
use Rattle.results.proofs.buffers.build_result_construct.Reads as construct
use Rattle.results.proofs.buffers.write_part.Reads as write-part

pub construct-one-outcome : Fixes (λ κs x at. x) construct.Post
construct-one-outcome κs a x y at_x at_y p q = p.0.numbers ∙ sym q.0.numbers

pub construct-one-reference : Fixes (λ κs x at. at.1.1.1.1.0.now.reference.now) construct.Post
construct-one-reference κs a x y at_x at_y p q = p.0.reference_buffer ∙ sym q.0.reference_buffer

pub construct-one-alternative : Fixes (λ κs x at. at.1.1.1.1.0.now.alternative.now) construct.Post
construct-one-alternative κs a x y at_x at_y p q = p.0.alternative_buffer ∙ sym q.0.alternative_buffer

pub write-part-one : Fixes (λ κs x at. at.1.0.now) write-part.Post
write-part-one κs a x y at_x at_y p q = p ∙ sym q
