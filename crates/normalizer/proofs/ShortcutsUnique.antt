-- Each public contract allows one result: the way, or the numbers and every byte of both buffers. Assumes nothing.
use mathlib.Core.Path.{sym, ◌∙◌}
use Rattle.definition.proofs.Fixes.{Fixes}
use Rattle.normalizer.proofs.shortcuts.way_of.Reads as way-of
use Rattle.normalizer.proofs.shortcuts.answer_in_place.Reads as answer-in-place

pub way-of-one : Fixes (λ κs x at. x) way-of.Post
way-of-one κs a x y at_x at_y p q = p ∙ sym q

pub in-place-one-outcome : Fixes (λ κs x at. x) answer-in-place.Post
in-place-one-outcome κs a x y at_x at_y p q = p.0.numbers ∙ sym q.0.numbers

pub in-place-one-reference : Fixes (λ κs x at. at.1.1.0.now.reference.now) answer-in-place.Post
in-place-one-reference κs a x y at_x at_y p q = p.0.reference_buffer ∙ sym q.0.reference_buffer

pub in-place-one-alternative : Fixes (λ κs x at. at.1.1.0.now.alternative.now) answer-in-place.Post
in-place-one-alternative κs a x y at_x at_y p q = p.0.alternative_buffer ∙ sym q.0.alternative_buffer
