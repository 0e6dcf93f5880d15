-- What stands at the front of the space is what was read.
use Rattle.std.proofs.Common.{◌-◌, ◌≤◌, length, take}
use Rattle.std.specs.Io.KnownBytes.{Consumes}
use Rattle.asking.proofs.reading.read_full.Given as goal

abbrev pub invariant-loop-size : goal.invariant-loop-size
invariant-loop-size g l = (l.size ≤ length l.space) × Consumes (g.R.Read.remaining l.initial.source) (g.R.Read.remaining l.source) (take l.size l.space)

abbrev pub decreases-loop-size : goal.decreases-loop-size
decreases-loop-size g l = length l.space - l.size
