use Rattle.std.proofs.Common.{arith}
use Rattle.asking.proofs.Keeping.{full, full-laid, done, done-laid}
use Rattle.asking.proofs.letters.keep_letters.Goals as goal

pub returns-then-target-size : goal.returns-then-target-size
returns-then-target-size c =
    let at = c.loop-byte.invariant in
    record { value = full _ _ at (omega arith) (omega arith); target_after = full-laid _ _ at (omega arith) }

pub returns : goal.returns
returns c =
    let at = c.loop-byte.invariant in
    record { value = done _ _ at (omega arith); target_after = done-laid _ _ at (omega arith) }
