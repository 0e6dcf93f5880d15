-- Each public contract decides what can be seen: of any two results that it allows, the head, the count and the bases of the buffer at exit are
-- equal. Not fixed are the bytes of the array outside the window.
-- Assumes nothing.
use Prim.Native.Nat.{ℕ}
use mathlib.Core.Path.{◌≡◌}
use mathlib.Core.List.{List}
use Rattle.definition.proofs.Fixes.{Fixes}
use Rattle.alleles.specs.declared.Allele.{Allele}
use Rattle.alleles.specs.Held.{held}
use Rattle.alleles.proofs.Unique.{Alike, holds-alike}
use Rattle.alleles.proofs.alleles_in_place.push_back_in.Reads as push-back-in
use Rattle.alleles.proofs.alleles_in_place.push_front_in.Reads as push-front-in
use Rattle.alleles.proofs.alleles_in_place.keep_front_in.Reads as keep-front-in
use Rattle.alleles.proofs.alleles_in_place.keep_back_in.Reads as keep-back-in

-- what can be seen of an allele
abbrev pub seen : Allele → ℕ × ℕ × List ℕ
seen allele = (allele.head, allele.count, held allele)

pub alike-seen : {x y : Allele} → Alike x y → seen x ≡ seen y
alike-seen p = λ i. (p.head i, p.count i, p.bases i)

pub push-back-in-one : Fixes (λ κs x at. seen at.0.now) push-back-in.Post
push-back-in-one κs a x y at_x at_y p q = alike-seen (holds-alike p q)

pub push-front-in-one : Fixes (λ κs x at. seen at.0.now) push-front-in.Post
push-front-in-one κs a x y at_x at_y p q = alike-seen (holds-alike p q)

pub keep-front-in-one : Fixes (λ κs x at. seen at.0.now) keep-front-in.Post
keep-front-in-one κs a x y at_x at_y p q = alike-seen (holds-alike p q)

pub keep-back-in-one : Fixes (λ κs x at. seen at.0.now) keep-back-in.Post
keep-back-in-one κs a x y at_x at_y p q = alike-seen (holds-alike p q)
