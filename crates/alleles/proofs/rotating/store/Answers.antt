-- The part is on the round after one copy, or after two.
use Rattle.std.proofs.Common.{◌≡◌, ◌+◌, ◌-◌, ◌%◌, length, refl, arith}
use Rattle.std.proofs.lemmas.List.{take_rest}
use Rattle.alleles.proofs.Copies.{copied-written, copied-once}
use Rattle.alleles.proofs.rotating.store.Goals as goal

pub returns-then-first-part : goal.returns-then-first-part
returns-then-first-part c =
    let a = c.args in
    let s = a.at % 2048 in
    let f = c.min-first.result in
    let width : s + f - s ≡ f = omega arith in
    rw (c.copy.ensures, c.copy-then-first-part.ensures, width, take_rest a.part.now f)
    (copied-written a.bytes.now a.part.now s f (length a.part.now - f) c.requires.0 c.requires.2 (omega arith) c.min-first.ensures refl a.at refl)

pub returns-else-first-part : goal.returns-else-first-part
returns-else-first-part c =
    let a = c.args in
    let s = a.at % 2048 in
    let f = c.min-first.result in
    let width : s + f - s ≡ f = omega arith in
    rw (c.copy.ensures, width)
    (copied-once a.bytes.now a.part.now s f a.at c.requires.0 c.requires.2 refl c.min-first.ensures c.if-first-part.false)
