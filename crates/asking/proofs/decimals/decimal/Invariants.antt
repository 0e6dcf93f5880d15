-- What the word comes to is what the digits left make of the value.
use Rattle.std.proofs.Common.{◌≡◌, drop}
use Rattle.asking.specs.Decimal.{read_on}
use Rattle.std.specs.Prelude.{Some}
use Rattle.asking.proofs.decimals.decimal.Given as goal

abbrev pub invariant-loop-byte : goal.invariant-loop-byte
invariant-loop-byte l = (read_on (Some 0) l.word ≡ read_on (Some l.value) (drop l.byte-index l.word))
