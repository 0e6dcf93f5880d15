-- What is left of two alleles when what they share at one end is taken off. Assumes nothing.
use Rattle.std.specs.Prelude.{◌+◌, ◌-◌, ◌%◌, ◌≡◌, length, take, drop}
use Rattle.definition.specs.Prefix.{lcp, lcs}
use Rattle.alleles.specs.declared.Allele.{Allele}
use Rattle.alleles.specs.declared.allele_trims.Trimmed.{Trimmed}
use Rattle.alleles.specs.Held.{held, Holds}

-- both lose the front that they share
pub record TrimmedFront (a b : Allele) (t : Trimmed) : Type 0 where
  pub count : t.count ≡ lcp (held a) (held b)
  pub left : Holds t.left ((a.head + t.count) % 2048) (a.count - t.count) (drop t.count (held a))
  pub right : Holds t.right ((b.head + t.count) % 2048) (b.count - t.count) (drop t.count (held b))

-- both lose the back that they share
pub record TrimmedBack (a b : Allele) (t : Trimmed) : Type 0 where
  pub count : t.count ≡ lcs (held a) (held b)
  pub left : Holds t.left a.head (a.count - t.count) (take (length (held a) - t.count) (held a))
  pub right : Holds t.right b.head (b.count - t.count) (take (length (held b) - t.count) (held b))
