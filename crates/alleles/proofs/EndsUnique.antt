-- Each public contract decides its result: two results that it allows are equal. Assumes nothing.
use mathlib.Core.Path.{sym, ◌∙◌}
use Rattle.definition.proofs.Fixes.{Fixes}
use Rattle.alleles.proofs.ends.common_front.Reads as common-front
use Rattle.alleles.proofs.ends.common_back.Reads as common-back

pub common-front-one : Fixes (λ κs x at. x) common-front.Post
common-front-one κs a x y at_x at_y p q = p ∙ sym q

pub common-back-one : Fixes (λ κs x at. x) common-back.Post
common-back-one κs a x y at_x at_y p q = p ∙ sym q
