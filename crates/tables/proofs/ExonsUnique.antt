-- Each public contract decides its result: two results that it allows are equal. Assumes nothing.
use mathlib.Core.Path.{sym, ◌∙◌}
use Rattle.definition.proofs.Fixes.{Fixes}
use Rattle.tables.proofs.exons.Exons.of.Reads as of
use Rattle.tables.proofs.exons.Exons.len.Reads as len
use Rattle.tables.proofs.exons.Exons.get.Reads as get
use Rattle.tables.proofs.exons.Exons.fit.Reads as fit
use Rattle.tables.proofs.exons.Exons.holding.Reads as holding

pub exons-of-one : Fixes (λ κs x at. x) of.Post
exons-of-one κs a x y at_x at_y p q = p ∙ sym q

pub exons-count-one : Fixes (λ κs x at. x) len.Post
exons-count-one κs a x y at_x at_y p q = p.0 ∙ sym q.0

pub exon-at-one : Fixes (λ κs x at. x) get.Post
exon-at-one κs a x y at_x at_y p q = cc

pub exons-fit-one : Fixes (λ κs x at. x) fit.Post
exons-fit-one κs a x y at_x at_y p q = p ∙ sym q

pub exon-holding-one : Fixes (λ κs x at. x) holding.Post
exon-holding-one κs a x y at_x at_y p q = p ∙ sym q
