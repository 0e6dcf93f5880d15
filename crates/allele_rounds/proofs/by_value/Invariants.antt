-- Before each round one allele holds one base and the other none.
use Rattle.std.proofs.Common.{◌≡◌}
use Rattle.alleles.specs.Held.{Good}
use Rattle.allele_rounds.proofs.by_value.Given as goal

abbrev pub invariant-loop : goal.invariant-loop
invariant-loop l = Good l.reference × (l.reference.count ≡ 1) × Good l.alternative × (l.alternative.count ≡ 0)
