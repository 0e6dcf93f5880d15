-- The pairs so far and the rests decide together.
use Rattle.std.proofs.Common.{◌≡◌, ◌&&◌, drop}
use Rattle.definition.specs.Bases.{same_bases}
use Rattle.sequences.proofs.reach.is_same.Given as goal

abbrev pub invariant-loop-k : goal.invariant-loop-k
invariant-loop-k l = (l.same && same_bases (drop l.k l.a) (drop l.k l.b)) ≡ same_bases l.a l.b
