-- The public contract decides its result: two results that it allows are equal. Assumes nothing.
use mathlib.Core.Path.{sym, ◌∙◌}
use Rattle.definition.proofs.Fixes.{Fixes}
use Rattle.results.proofs.copies.copy_beside.Reads as copy-beside

pub copy-beside-one : Fixes (λ κs x at. x) copy-beside.Post
copy-beside-one κs a x y at_x at_y p q = p ∙ sym q
