-- The public contract decides its result: two results that it allows are equal, and so is every byte of the buffer. Assumes nothing.
use mathlib.Core.Path.{sym, ◌∙◌}
use Rattle.definition.proofs.Fixes.{Fixes}
use Rattle.asking.proofs.exon_lists.read_exons.Reads as read-exons

pub read-exons-one : Fixes (λ κs x at. x) read-exons.Post
read-exons-one κs a x y at_x at_y p q = p.0 ∙ sym q.0

pub read-exons-one-table : Fixes (λ κs x at. at.1.0.now) read-exons.Post
read-exons-one-table κs a x y at_x at_y p q = p.1 ∙ sym q.1
