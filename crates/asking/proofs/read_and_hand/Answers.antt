-- By what the target comes to; its letters stand at the front of its room.
use Rattle.std.proofs.Common.{refl}
use Rattle.std.proofs.lemmas.Result.{err_from_is_err_and}
use Rattle.asking.specs.Sources.{bytes_of}
use Rattle.asking.proofs.Came.{stops, goes_on, unread, with-letters}
use Rattle.asking.proofs.read_and_hand.Goals as goal

pub returns-in_err-size : goal.returns-in_err-size
returns-in_err-size c =
    let a = c.args in
    let p = err_from_is_err_and c.from_residual.result c.from_residual.ensures.1 in
    let room = c.room-target in
    rw (p.1, p.2)
    (stops (unread a.text.now a.request a.edit a.range (bytes_of a.file) _ _ room.result room.ensures.size c.in_err-size.ensures.value refl))

pub returns : goal.returns
returns c =
    let a = c.args in
    let room = c.room-target in
    let came = c.in_ok-size.ensures in
    let on = with-letters a.text.now a.request a.edit a.range (bytes_of a.file) _ _ room.result room.ensures.size came.value in
    goes_on (on refl came.target_after c.part.ensures) c.hand.ensures
