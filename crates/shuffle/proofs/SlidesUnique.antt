-- The window shows nowhere: any two results that the contracts allow for one change, whatever the windows, agree in place, probes and alleles. Not
-- fixed is where in its array an allele begins. Assumes nothing.
use mathlib.Core.Path.{◌≡◌, sym, ap, ◌∙◌}
use mathlib.Core.Bool.{cond}
use mathlib.Core.List.{List}
use Prim.Native.Nat.{ℕ, ◌+◌, ◌-◌}
use lib.Seq.{slice}
use Rattle.definition.specs.declared.Direction.{Direction}
use Rattle.definition.specs.declared.Piece.{Piece}
use Rattle.definition.specs.Place.{stopped_by_base}
use Rattle.alleles.specs.declared.Allele.{Allele}
use Rattle.alleles.specs.Held.{held}
use Rattle.shuffle.specs.declared.slides.Shuffled.{Shuffled}
use Rattle.shuffle.specs.Slides.{Part, Slid}

pub record Alike (r a : Allele) (s : Shuffled) (r' a' : Allele) (s' : Shuffled) : Type 0 where
  pub place : s.place.0 ≡ s'.place.0
  pub probes : s.probes ≡ s'.probes
  pub reference : held r ≡ held r'
  pub alternative : held a ≡ held a'

-- what holds so many bases of one sequence from one place on holds the same
pub same-part : {x y : Allele} {p q size : ℕ} {sequence : List ℕ} → p ≡ q → Part x p size sequence → Part y q size sequence → held x ≡ held y
same-part {x} {y} {p} {q} {size} {sequence} e a b = a.bases ∙ ap (λ (n : ℕ). slice n (n + size) sequence) e ∙ sym b.bases

-- `slide`, in either direction
pub one-slide : (direction : Direction) (piece : Piece) (target : List ℕ) (start : ℕ) (r a x y : Allele) (s : Shuffled) (x' y' : Allele) (s' : Shuffled)
    → Slid direction piece target start r a x y s → Slid direction piece target start r a x' y' s' → Alike x y s x' y' s'
one-slide direction piece target start r a x y s x' y' s' p q =
    let same : s.place.0 ≡ s'.place.0 = p.place ∙ sym q.place in
    record {
      place = same;
      probes = p.probes
          ∙ ap (λ (n : ℕ). (n - start) + (start - n) + cond (stopped_by_base direction piece target r.count n) 1 0) same
          ∙ sym q.probes;
      reference = same-part same p.reference q.reference;
      alternative = same-part same p.alternative q.alternative;
    }
