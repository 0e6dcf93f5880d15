-- What a trim in place leaves, as the by-value trim gives it back. Assumes nothing.
use Rattle.std.specs.Prelude.{ℕ}
use Rattle.alleles.specs.declared.Allele.{Allele}
use Rattle.alleles.specs.declared.allele_trims.Trimmed.{Trimmed}

-- how many bases came off, and the two alleles at exit
abbrev pub rests : ℕ → Allele → Allele → Trimmed
rests count left right = record { count = count; left = left; right = right }
