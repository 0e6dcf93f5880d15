use Rattle.asking.proofs.Expanding.{start, next, done}
use Rattle.asking.proofs.runs.expand.Goals as goal

pub loop-i-init : goal.loop-i-init
loop-i-init c = start _ _ _

pub loop-i-preserved : goal.loop-i-preserved
loop-i-preserved c =
    let end = c.run_end-i.ensures in
    next _ _ _ c.loop-i.invariant c.loop-i-test.true _ _ _ c.separated-byte.ensures c.run_count.ensures c.put_run.ensures end.value end.upper_bound

pub returns : goal.returns
returns c = done _ _ _ c.loop-i.invariant c.loop-i-test.false
