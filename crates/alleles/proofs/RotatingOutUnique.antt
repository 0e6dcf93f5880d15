-- The public contract allows one result: every byte that is written to. The theorem is about the contract as the source states it. Assumes nothing.
use mathlib.Core.Path.{sym, ◌∙◌}
use Rattle.definition.proofs.Fixes.{Fixes}
use Rattle.alleles.proofs.rotating_out.copy_out.Reads as copy-out

pub copy-out-one : Fixes (λ κs x at. at.1.1.1.0.now) copy-out.Post
copy-out-one κs a x y at_x at_y p q = p ∙ sym q
