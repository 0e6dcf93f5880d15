use Rattle.std.proofs.Common.{arith, sym}
use Rattle.asking.proofs.DecimalsDigits.{stopped}
use Rattle.asking.proofs.decimals.decimal.Goals as goal

pub returns-in_err-value : goal.returns-in_err-value
returns-in_err-value c =
    let at = c.loop-byte in
    rw c.from_residual.ensures (stopped c.args.word.now at.byte-index at.value at.invariant (omega arith) (sym c.in_err-value.ensures))
