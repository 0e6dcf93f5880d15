-- The byte fills the places behind the bytes that are used, as far as there is room.
use Rattle.std.proofs.Common.{◌≡◌, ℕ, ◌+◌, ◌-◌, length, take, drop, replicate, refl, sym, ap, ◌∙◌, arith}
use Rattle.std.proofs.lemmas.List.{take-replicate, length-replicate, length-take, length-drop}
use Rattle.asking.proofs.Pages.{none_fits, cut}
use Rattle.asking.proofs.terminal.Page.put_times.Goals as goal

pub returns-then-size-gt0 : goal.returns-then-size-gt0
returns-then-size-gt0 c =
    let a = c.args in
    let bytes = a.self.now.bytes.now in
    let used = a.self.now.used in
    let size = c.fitting-size.result in
    let long = length-replicate a.times a.byte in
    let filled : length (take (used + size - used) (drop used bytes)) ≡ size =
    omega (arith, length-take (used + size - used) (drop used bytes), length-drop used bytes) in
    let front =
    c.fill.ensures.after (λ y h. h)
    ∙ ap (λ (n : ℕ). replicate n a.byte) filled
    ∙ sym (take-replicate size a.times a.byte (omega arith)) in
    record { held = cut (replicate a.times a.byte) bytes _ used _ _ (omega arith) (omega arith) (omega arith) front; same_buffer = refl }

pub returns-else-size-gt0 : goal.returns-else-size-gt0
returns-else-size-gt0 c =
    let a = c.args in
    let long = length-replicate a.times a.byte in
    record { held = sym (none_fits (replicate a.times a.byte) a.self.now.bytes.now a.self.now.used (omega arith)); same_buffer = refl }
