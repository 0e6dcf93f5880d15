use Rattle.std.proofs.Common.{◌≤◌, length}
use Rattle.normalize.proofs.gather.Given as goal

abbrev pub invariant-loop-i : goal.invariant-loop-i
invariant-loop-i g l = l.size ≤ length l.text
