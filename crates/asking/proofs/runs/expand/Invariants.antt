use Rattle.std.proofs.Common.{◌-◌, length}
use Rattle.asking.proofs.Expanding.{Expanding}
use Rattle.asking.proofs.runs.expand.Given as goal

abbrev pub invariant-loop-i : goal.invariant-loop-i
invariant-loop-i l = Expanding l.separator l.field l.initial.page l.page l.i

abbrev pub decreases-loop-i : goal.decreases-loop-i
decreases-loop-i l = length l.field - l.i
