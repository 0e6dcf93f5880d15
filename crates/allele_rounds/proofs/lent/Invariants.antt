-- Before each round one allele holds one base and the other none.
use Rattle.std.proofs.Common.{◌≡◌}
use Rattle.alleles.specs.Held.{Good}
use Rattle.allele_rounds.proofs.lent.Given as goal

abbrev pub invariant-loop : goal.invariant-loop
invariant-loop l = Good l.alleles.reference × (l.alleles.reference.count ≡ 1) × Good l.alleles.alternative × (l.alleles.alternative.count ≡ 0)
