-- The n bytes passed are shared.
use Rattle.std.proofs.Common.{◌-◌, ◌≤◌}
use Rattle.definition.specs.Prefix.{lcp}
use Rattle.alleles.specs.Held.{held}
use Rattle.alleles.proofs.ends.common_front.Given as goal

abbrev pub invariant-loop-n : goal.invariant-loop-n
invariant-loop-n l =
    record { in_range : l.n ≤ l.most; shared : l.n ≤ lcp (held l.a) (held l.b) }

abbrev pub decreases-loop-n : goal.decreases-loop-n
decreases-loop-n l = l.most - l.n
