-- The public contract fixes, in either direction, the place, the probes and the bases of both alleles: those of any two results that it allows are equal. Assumes nothing.
use Prim.Native.Nat.{ℕ}
use mathlib.Core.Path.{◌≡◌}
use mathlib.Core.List.{List}
use Rattle.definition.proofs.Fixes.{Fixes}
use Rattle.alleles.specs.declared.Allele.{Allele}
use Rattle.alleles.specs.Held.{held}
use Rattle.shuffle.specs.declared.slides.Shuffled.{Shuffled}
use Rattle.shuffle.proofs.SlidesUnique.{Alike}
use Rattle.shuffle.proofs.MovesUnique.{one_answer}
use Rattle.shuffle.proofs.normalize_alleles.Reads as normalize-alleles

-- what can be seen of a change at its final place, and of the buffers with its alleles there
abbrev seen : Shuffled → Allele → Allele → ℕ × ℕ × List ℕ × List ℕ
seen s r a = (s.place.0, s.probes, held r, held a)

same_seen : {r a r' a' : Allele} {s s' : Shuffled} → Alike r a s r' a' s' → seen s r a ≡ seen s' r' a'
same_seen a = λ i. (a.place i, a.probes i, a.reference i, a.alternative i)

pub normalize-alleles-one : Fixes (λ κs x at. seen x at.1.1.1.1.1.0.now.reference at.1.1.1.1.1.0.now.alternative) normalize-alleles.Post
normalize-alleles-one κs a x y at_x at_y p q = same_seen (one_answer _ _ _ _ _ _ x _ _ y p q)
