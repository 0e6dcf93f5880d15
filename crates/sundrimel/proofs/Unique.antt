-- The exported entry's contract allows one reply: any two are equal in every number and in every byte of both buffers. Assumes nothing.
use mathlib.Core.Path.{sym, ◌∙◌}
use Rattle.definition.proofs.Fixes.{Fixes}
use Rattle.sundrimel.proofs.sundrimel_normalize.Reads as entry

pub one-refusal : Fixes (λ κs x at. x.refusal) entry.Post
one-refusal κs a x y at_x at_y p q = p.refusal ∙ sym q.refusal

pub one_class : Fixes (λ κs x at. x.class) entry.Post
one_class κs a x y at_x at_y p q = p.class ∙ sym q.class

pub one-start : Fixes (λ κs x at. x.start) entry.Post
one-start κs a x y at_x at_y p q = p.start ∙ sym q.start

pub one_end : Fixes (λ κs x at. x.end) entry.Post
one_end κs a x y at_x at_y p q = p.end ∙ sym q.end

pub one-probes : Fixes (λ κs x at. x.probes) entry.Post
one-probes κs a x y at_x at_y p q = p.probes ∙ sym q.probes

pub one-reference-len : Fixes (λ κs x at. x.reference_len) entry.Post
one-reference-len κs a x y at_x at_y p q = p.reference_size ∙ sym q.reference_size

pub one-alternative-len : Fixes (λ κs x at. x.alternative_len) entry.Post
one-alternative-len κs a x y at_x at_y p q = p.alternative_size ∙ sym q.alternative_size

pub one-reference : Fixes (λ κs x at. at.1.1.1.1.1.1.1.1.1.1.1.0.now) entry.Post
one-reference κs a x y at_x at_y p q = p.reference ∙ sym q.reference

pub one-alternative : Fixes (λ κs x at. at.1.1.1.1.1.1.1.1.1.1.1.1.0.now) entry.Post
one-alternative κs a x y at_x at_y p q = p.alternative ∙ sym q.alternative
