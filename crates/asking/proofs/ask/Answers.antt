-- By the request that the words make.
use Rattle.std.proofs.Common.{refl}
use Rattle.std.proofs.lemmas.Result.{err_from_is_err_and}
use Rattle.definition.proofs.Tests.{none-gives}
use Rattle.asking.specs.Sources.{bytes_of}
use Rattle.asking.proofs.Came.{stops, goes_on, broken, no-edit, no-range, with-range}
use Rattle.asking.proofs.ask.Goals as goal

pub returns-in_err-request : goal.returns-in_err-request
returns-in_err-request c =
    let p = err_from_is_err_and c.from_residual.result c.from_residual.ensures.1 in
    rw (p.1, p.2) (stops (broken _ _ _ _ c.in_err-request.ensures refl))

pub returns-in_err-edit : goal.returns-in_err-edit
returns-in_err-edit c =
    let p = err_from_is_err_and c.from_residual-in_err-edit.result c.from_residual-in_err-edit.ensures.1 in
    let none = c.in_err-edit.ensures in
    rw (p.1, p.2, none-gives none.value none.ok_part) (stops (no-edit _ _ _ _ c.in_ok-request.ensures refl none.ok_part))

pub returns-in_err-range : goal.returns-in_err-range
returns-in_err-range c =
    let p = err_from_is_err_and c.from_residual-in_err-range.result c.from_residual-in_err-range.ensures.1 in
    let none = c.in_err-range.ensures in
    rw (p.1, p.2, none-gives none.value none.ok_part)
    (stops (no-range _ _ _ _ c.in_ok-request.ensures refl c.in_ok-edit.ensures.ok_part none.ok_part))

pub returns : goal.returns
returns c =
    let a = c.args in
    goes_on (with-range a.text.now (bytes_of a.file) _ _ c.in_ok-request.ensures refl c.in_ok-edit.ensures.ok_part c.in_ok-range.ensures.ok_part)
    c.read_and_hand.ensures
