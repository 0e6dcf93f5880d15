-- The first i bytes of the reverse complement are written.
use Rattle.std.proofs.Common.{◌≡◌, ◌++◌, take, drop}
use Rattle.definition.specs.Bases.{reverse_complement}
use Rattle.sequences.proofs.bases.revcomp.Given as goal

abbrev pub invariant-loop-i : goal.invariant-loop-i
invariant-loop-i l = l.out ≡ take l.i (reverse_complement l.part) ++ drop l.i l.fn.out
