-- One copy, or two, leave the window in front of what was there.
use Rattle.std.proofs.Common.{◌≡◌, ◌+◌, ◌-◌, refl, arith}
use Rattle.alleles.proofs.Copies.{window-lent, window-read-once}
use Rattle.alleles.proofs.rotating_out.copy_out.Goals as goal

pub returns-then-first-count : goal.returns-then-first-count
returns-then-first-count c =
    let a = c.args in
    let f = c.min-first.result in
    rw (c.copy.ensures, c.copy-then-first-count.ensures)
    (window-lent a.bytes.now a.out.now a.head a.count f (a.count - f) (omega arith) c.requires.0.start c.requires.0.fits c.min-first.ensures refl
    (a.head + f - a.head) (omega arith))

pub returns-else-first-count : goal.returns-else-first-count
returns-else-first-count c =
    let a = c.args in
    let f = c.min-first.result in
    let width : a.head + f - a.head ≡ f = omega arith in
    rw (c.copy.ensures, width)
    (window-read-once a.bytes.now a.out.now a.head a.count f 0 (omega arith) c.requires.0.start c.requires.0.fits c.min-first.ensures (omega arith) c.if-first-count.false)
