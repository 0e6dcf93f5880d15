use Rattle.asking.proofs.Keeping.{Keeping}
use Rattle.asking.proofs.letters.keep_letters.Given as goal

abbrev pub invariant-loop-byte : goal.invariant-loop-byte
invariant-loop-byte l = Keeping l.part l.initial.target l.target l.size l.byte-index
