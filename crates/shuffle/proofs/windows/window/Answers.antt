-- What the two stores, the count and the two cuts ensure is one window of the move.
use Rattle.std.proofs.Common.{arith}
use Rattle.shuffle.proofs.OneWindow.{within-right, within-left, moved-right, moved-left}
use Rattle.shuffle.proofs.windows.window.Goals as goal

pub narrow-requires-clause-in_bounds : goal.narrow-requires-clause-in_bounds
narrow-requires-clause-in_bounds c =
    let a = c.args in
    let w = within-right a.alleles.now.reference a.alleles.now.alternative c.append.new.self c.append-in-Rightward.new.self a.chunk.now c.common_front-shared.result
    c.requires.pure c.append.ensures c.append-in-Rightward.ensures c.common_front-shared.ensures in
    omega (arith, w, c.append.ensures.count)

pub narrow-requires-in-Rightward-clause-in_bounds : goal.narrow-requires-in-Rightward-clause-in_bounds
narrow-requires-in-Rightward-clause-in_bounds c =
    let a = c.args in
    let w = within-right a.alleles.now.reference a.alleles.now.alternative c.append.new.self c.append-in-Rightward.new.self a.chunk.now c.common_front-shared.result
    c.requires.pure c.append.ensures c.append-in-Rightward.ensures c.common_front-shared.ensures in
    omega (arith, w, c.append-in-Rightward.ensures.count)

pub returns-in-Rightward : goal.returns-in-Rightward
returns-in-Rightward c =
    let a = c.args in
    rw c.in-Rightward.is
    (moved-right a.alleles.now.reference a.alleles.now.alternative c.append.new.self c.append-in-Rightward.new.self a.chunk.now c.common_front-shared.result
    c.requires.pure c.append.ensures c.append-in-Rightward.ensures c.common_front-shared.ensures
    c.narrow.new.self c.narrow-in-Rightward.new.self c.narrow.ensures c.narrow-in-Rightward.ensures)

pub overflow_sub-first : goal.overflow_sub-first
overflow_sub-first c =
    let a = c.args in
    within-left a.alleles.now.reference a.alleles.now.alternative c.prepend.new.self c.prepend-in-Leftward.new.self a.chunk.now c.common_back-shared.result
    c.requires.pure c.prepend.ensures c.prepend-in-Leftward.ensures c.common_back-shared.ensures

pub returns-in-Leftward : goal.returns-in-Leftward
returns-in-Leftward c =
    let a = c.args in
    rw c.in-Leftward.is
    (moved-left a.alleles.now.reference a.alleles.now.alternative c.prepend.new.self c.prepend-in-Leftward.new.self a.chunk.now c.common_back-shared.result
    c.requires.pure c.prepend.ensures c.prepend-in-Leftward.ensures c.common_back-shared.ensures
    c.narrow-in-Leftward.new.self c.narrow-in-Leftward-2.new.self (omega (arith, c.requires.placed.fits))
    c.narrow-in-Leftward.ensures c.narrow-in-Leftward-2.ensures)
