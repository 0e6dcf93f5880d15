-- Each public contract decides what can be seen: of any two results that it allows, the counts are equal, and so are the head, the count and
-- the bases of each buffer at exit. Not fixed are the bytes of the arrays outside the windows.
-- Assumes nothing.
use Prim.Native.Nat.{ℕ}
use mathlib.Core.Path.{◌≡◌}
use mathlib.Core.List.{List}
use Rattle.definition.proofs.Fixes.{Fixes}
use Rattle.alleles.specs.declared.allele_trims.Trimmed.{Trimmed}
use Rattle.alleles.proofs.AlleleTrimsUnique.{SameTrim, trimmed-front-same, trimmed-back-same}
use Rattle.alleles.proofs.AllelesInPlaceUnique.{seen, alike-seen}
use Rattle.alleles.specs.Rests.{rests}
use Rattle.alleles.proofs.trims_in_place.trim_front_in.Reads as trim-front-in
use Rattle.alleles.proofs.trims_in_place.trim_back_in.Reads as trim-back-in

-- what can be seen of a trim's result
abbrev trim-seen : Trimmed → ℕ × (ℕ × ℕ × List ℕ) × (ℕ × ℕ × List ℕ)
trim-seen t = (t.count, seen t.left, seen t.right)

same_seen : {t u : Trimmed} → SameTrim t u → trim-seen t ≡ trim-seen u
same_seen p = λ i. (p.count i, alike-seen p.left i, alike-seen p.right i)

pub trim-front-in-one : Fixes (λ κs x at. trim-seen (rests x at.0.now at.1.0.now)) trim-front-in.Post
trim-front-in-one κs a x y at_x at_y p q = same_seen (trimmed-front-same p q)

pub trim-back-in-one : Fixes (λ κs x at. trim-seen (rests x at.0.now at.1.0.now)) trim-back-in.Post
trim-back-in-one κs a x y at_x at_y p q = same_seen (trimmed-back-same p q)
