-- Windows in a row keep the change on its way, and no differing base was met yet.
use Rattle.std.proofs.Common.{◌≤◌}
use Rattle.definition.specs.Limits.{longest_window}
use Rattle.alleles.specs.Held.{held}
use Rattle.shuffle.specs.Windows.{room}
use Rattle.shuffle.proofs.Loop.{Turning}
use Rattle.shuffle.proofs.slides.slide.Given as goal

abbrev pub invariant-loop-width : goal.invariant-loop-width
invariant-loop-width l =
    record {
      turning : Turning l.direction l.fn.piece l.target l.start (held l.initial.alleles.alternative) l.initial.alleles.reference.count l.initial.alleles.alternative.count
          l.alleles.reference l.alleles.alternative l.place 0;
      some : 1 ≤ l.width;
      longest : l.width ≤ longest_window;
    }

abbrev pub decreases-loop-width : goal.decreases-loop-width
decreases-loop-width l = room l.direction l.place l.alleles.reference.count l.edge
