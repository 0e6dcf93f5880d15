-- The part stands at the array's beginning.
use Rattle.std.proofs.Common.{refl, arith}
use Rattle.alleles.proofs.Copies.{filled-window}
use Rattle.alleles.proofs.Allele.fill.Goals as goal

pub returns : goal.returns
returns c =
    record {
      good = record { start = omega arith; fits = c.requires.part_bound };
      head = refl;
      count = refl;
      bases = rw c.copy.ensures (filled-window c.args.self.now.bytes c.args.part.now (omega arith) c.requires.part_bound);
    }
