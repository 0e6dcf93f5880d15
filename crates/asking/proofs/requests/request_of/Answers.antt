use Rattle.std.proofs.Common.{refl}
use Rattle.std.proofs.lemmas.Result.{err_from_is_err_and}
use Rattle.asking.proofs.RequestsReading.{start, wrong, next, done}
use Rattle.asking.proofs.requests.request_of.Goals as goal

pub loop-at-init : goal.loop-at-init
loop-at-init c = start _ c.nothing-request.ensures

pub loop-at-preserved : goal.loop-at-preserved
loop-at-preserved c =
    let option = c.in_ok-step.ensures in
    next _ c.loop-at.invariant c.loop-at-test.true option.value option.onward refl c.set.ensures

pub returns-in_err-step : goal.returns-in_err-step
returns-in_err-step c =
    let p = err_from_is_err_and c.from_residual.result c.from_residual.ensures.1 in
    rw (p.1, p.2) (wrong _ c.loop-at.invariant c.loop-at-test.true c.in_err-step.ensures.value refl)

pub returns : goal.returns
returns c = done _ c.loop-at.invariant c.loop-at-test.false
