-- What is written of an allele. Assumes nothing.
use Rattle.std.specs.Prelude.{ℕ, ◌≡◌, List}
use Rattle.definition.specs.Reply.{written}
use Rattle.alleles.specs.declared.Allele.{Allele}
use Rattle.alleles.specs.Held.{held}

-- an allele written out: how many bases it has, and the bytes that they were written to
pub record WrittenOut (allele : Allele) (out out' : List ℕ) (size : ℕ) : Type 0 where
  pub count : size ≡ allele.count
  pub bytes : out' ≡ written (held allele) out
