-- What is found so far and what the rest holds decide together.
use Rattle.std.proofs.Common.{◌≡◌, ◌&&◌, drop}
use Rattle.definition.specs.Bases.{all_bases}
use Rattle.sequences.proofs.bases.all_bases.Given as goal

abbrev pub invariant-loop-b : goal.invariant-loop-b
invariant-loop-b l = (l.all && all_bases (drop l.b-index l.s)) ≡ all_bases l.s
