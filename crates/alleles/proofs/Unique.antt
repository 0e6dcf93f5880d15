-- What each public function's contract leaves open: any two results that it allows are equal. Not fixed, and not to be seen through the
-- window, are the bytes of the array outside it.
-- Assumes nothing.
use Prim.Native.Nat.{ℕ}
use mathlib.Core.Path.{◌≡◌}
use mathlib.Core.List.{List}
use Rattle.alleles.proofs.RotatingUnique.{equal}
use Rattle.alleles.specs.declared.Allele.{Allele}
use Rattle.alleles.specs.Held.{held, Holds}

-- alleles that cannot be told apart
pub record Alike (x y : Allele) : Type 0 where
  pub head : x.head ≡ y.head
  pub count : x.count ≡ y.count
  pub bases : held x ≡ held y

-- `Allele::empty`, `filled`, `fill`, `append`, `prepend`, `narrow`, `push_back` and `push_front` ensure `Holds`
pub holds-alike : {x y : Allele} {place size : ℕ} {list : List ℕ} → Holds x place size list → Holds y place size list → Alike x y
holds-alike p q =
    record { head = equal p.head q.head; count = equal p.count q.count; bases = equal p.bases q.bases }
