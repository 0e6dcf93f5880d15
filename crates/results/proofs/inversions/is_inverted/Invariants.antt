-- What the rests from i on say, the whole says.
use Rattle.std.proofs.Common.{length, ◌≡◌, drop}
use Rattle.definition.specs.Bases.{same_bases, reverse_complement}
use Rattle.alleles.specs.Window.{window}
use Rattle.results.proofs.inversions.is_inverted.Given as goal

abbrev pub invariant-loop-i : goal.invariant-loop-i
invariant-loop-i l =
    same_bases (drop l.i l.part) (drop l.i (reverse_complement (window l.alternative.bytes l.alternative.head (length l.part))))
    ≡ same_bases l.part (reverse_complement (window l.alternative.bytes l.alternative.head (length l.part)))
