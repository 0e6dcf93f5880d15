-- Each public contract allows one answer: any two that it allows for the same arguments are equal. Each theorem is about the contract as the
-- source states it. Assumes nothing.
use mathlib.Core.Path.{sym, ◌∙◌}
use Rattle.definition.proofs.Fixes.{Fixes}
use Rattle.sequences.proofs.bases.complement.Reads as complement
use Rattle.sequences.proofs.bases.all_bases.Reads as all-bases
use Rattle.sequences.proofs.bases.copy.Reads as copy
use Rattle.sequences.proofs.bases.revcomp.Reads as revcomp

pub complement-one : Fixes (λ κs x at. x) complement.Post
complement-one κs a x y at_x at_y p q = p ∙ sym q

pub all-bases-one : Fixes (λ κs x at. x) all-bases.Post
all-bases-one κs a x y at_x at_y p q = p ∙ sym q

-- every byte of the buffer
pub copy-one : Fixes (λ κs x at. at.1.0.now) copy.Post
copy-one κs a x y at_x at_y p q = p ∙ sym q

-- the count, and every byte of the buffer
pub revcomp-one-count : Fixes (λ κs x at. x) revcomp.Post
revcomp-one-count κs a x y at_x at_y p q = p.0 ∙ sym q.0

pub revcomp-one-buffer : Fixes (λ κs x at. at.1.0.now) revcomp.Post
revcomp-one-buffer κs a x y at_x at_y p q = p.1 ∙ sym q.1
