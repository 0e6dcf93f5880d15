-- The bases passed are shared.
use Rattle.std.proofs.Common.{◌-◌, ◌≤◌, length}
use Rattle.definition.specs.Prefix.{lcp}
use Rattle.sequences.proofs.reach.common.Given as goal

abbrev pub invariant-loop-n : goal.invariant-loop-n
invariant-loop-n l = record { in_range : l.n ≤ l.most; in_a : l.most ≤ length l.a; in_b : l.most ≤ length l.b; shared : l.n ≤ lcp l.a l.b }

abbrev pub decreases-loop-n : goal.decreases-loop-n
decreases-loop-n l = l.most - l.n

abbrev pub invariant-loop-n-2 : goal.invariant-loop-n-2
invariant-loop-n-2 l = record { in_range : l.n ≤ l.most; in_a : l.most ≤ length l.a; in_b : l.most ≤ length l.b; shared : l.n ≤ lcp l.a l.b }

abbrev pub decreases-loop-n-2 : goal.decreases-loop-n-2
decreases-loop-n-2 l = l.most - l.n
