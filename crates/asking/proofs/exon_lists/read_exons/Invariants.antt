use Rattle.std.proofs.Common.{length}
use Rattle.asking.proofs.ExonListsReading.{Reading}
use Rattle.asking.proofs.exon_lists.read_exons.Given as goal

abbrev pub invariant-loop-pair : goal.invariant-loop-pair
invariant-loop-pair l = Reading l.list l.initial.table l.table l.size (length l.yielded)
