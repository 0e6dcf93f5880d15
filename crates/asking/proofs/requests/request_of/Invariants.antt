use Rattle.std.proofs.Common.{length, ◌-◌}
use Rattle.asking.proofs.RequestsReading.{Reading}
use Rattle.asking.proofs.requests.request_of.Given as goal

abbrev pub invariant-loop-at : goal.invariant-loop-at
invariant-loop-at l = Reading l.text l.request l.at

abbrev pub decreases-loop-at : goal.decreases-loop-at
decreases-loop-at l = length l.text - l.at
