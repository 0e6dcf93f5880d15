-- The public contract allows one answer: any two that it allows for the same arguments are equal, the numbers and every byte of both
-- buffers, refused or not. The theorems are about the contract as the source states it. Assumes nothing.
use mathlib.Core.Path.{sym, ◌∙◌}
use Rattle.definition.proofs.Fixes.{Fixes}
use Rattle.results.proofs.build_result.Reads as build-result

pub build-result-one-outcome : Fixes (λ κs x at. x) build-result.Post
build-result-one-outcome κs a x y at_x at_y p q = p.0.numbers ∙ sym q.0.numbers

pub build-result-one-reference : Fixes (λ κs x at. at.1.1.1.0.now.reference.now) build-result.Post
build-result-one-reference κs a x y at_x at_y p q = p.0.reference_buffer ∙ sym q.0.reference_buffer

pub build-result-one-alternative : Fixes (λ κs x at. at.1.1.1.0.now.alternative.now) build-result.Post
build-result-one-alternative κs a x y at_x at_y p q = p.0.alternative_buffer ∙ sym q.0.alternative_buffer
