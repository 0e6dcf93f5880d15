-- What each public function's contract leaves open: any two results that it allows are equal. Not fixed, and not to be seen through the
-- window, are the bytes of the array outside it. `keep_front` and `keep_back` ensure `Holds`, whose law stands in crate `alleles`.
-- Assumes nothing.
use Prim.Native.Nat.{ℕ}
use mathlib.Core.Path.{◌≡◌}
use mathlib.Core.List.{List}
use Rattle.alleles.proofs.RotatingUnique.{equal}
use Rattle.alleles.specs.declared.Allele.{Allele}
use Rattle.alleles.specs.WrittenOut.{WrittenOut}

-- `write_out`: the count and the bytes written to
pub written-out-equal : {allele : Allele} {out after other : List ℕ} {m n : ℕ}
    → WrittenOut allele out after m → WrittenOut allele out other n → (m ≡ n) × (after ≡ other)
written-out-equal p q = (equal p.count q.count, equal p.bytes q.bytes)
