-- What each public function's contract leaves open: any two results that it allows are equal. Not fixed, and not to be seen through the
-- window, are the bytes of the arrays outside it. Assumes nothing.
use mathlib.Core.Path.{◌≡◌}
use Rattle.alleles.proofs.RotatingUnique.{equal}
use Rattle.alleles.specs.declared.Allele.{Allele}
use Rattle.alleles.proofs.Unique.{Alike, holds-alike}
use Rattle.alleles.specs.declared.allele_trims.Trimmed.{Trimmed}
use Rattle.alleles.specs.Trims.{TrimmedFront, TrimmedBack}

-- `trim_front` and `trim_back`: the count and both rests
pub record SameTrim (t u : Trimmed) : Type 0 where
  pub count : t.count ≡ u.count
  pub left : Alike t.left u.left
  pub right : Alike t.right u.right

pub trimmed-front-same : {a b : Allele} {t u : Trimmed} → TrimmedFront a b t → TrimmedFront a b u → SameTrim t u
trimmed-front-same p q =
    let e = equal p.count q.count in
    record { count = e; left = holds-alike p.left (rw e q.left); right = holds-alike p.right (rw e q.right) }

pub trimmed-back-same : {a b : Allele} {t u : Trimmed} → TrimmedBack a b t → TrimmedBack a b u → SameTrim t u
trimmed-back-same p q =
    let e = equal p.count q.count in
    record { count = e; left = holds-alike p.left (rw e q.left); right = holds-alike p.right (rw e q.right) }
