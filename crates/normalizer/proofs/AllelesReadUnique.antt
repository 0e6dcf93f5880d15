-- Each public contract decides its result: two results that it allows are equal. Assumes nothing.
use mathlib.Core.Path.{sym, ◌∙◌}
use Rattle.definition.proofs.Fixes.{Fixes}
use Rattle.normalizer.proofs.alleles_read.too_long.Reads as too_long
use Rattle.normalizer.proofs.alleles_read.bad_allele.Reads as bad-allele

pub too-long-one : Fixes (λ κs x at. x) too_long.Post
too-long-one κs a x y at_x at_y p q = p ∙ sym q

pub bad-allele-one : Fixes (λ κs x at. x) bad-allele.Post
bad-allele-one κs a x y at_x at_y p q = p ∙ sym q
