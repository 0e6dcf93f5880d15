-- A stretch lengthens what is shared by what it shares, and by less than itself only where nothing more is shared.
use Rattle.std.proofs.Common.{arith}
use Rattle.alleles.proofs.EndsLaws.{front-fits, front-more}
use Rattle.alleles.proofs.ends.common_front.Goals as goal

pub overflow_add-n : goal.overflow_add-n
overflow_add-n c =
    let a = c.args in
    let i = c.loop-n.invariant in
    let more =
    front-more a.a.now a.b.now (omega arith) (omega arith) c.min-most.result c.loop-n.n c.min-room.result
    c.min-size.result c.common-more.result c.min-most.ensures c.loop-n-test.true c.min-size.ensures i.shared c.min-room.ensures c.common-more.ensures
    in omega (arith, more, i.in_range)

pub returns-then-more-size : goal.returns-then-more-size
returns-then-more-size c =
    let a = c.args in
    let i = c.loop-n.invariant in
    let more =
    front-more a.a.now a.b.now (omega arith) (omega arith) c.min-most.result c.loop-n.n c.min-room.result
    c.min-size.result c.common-more.result c.min-most.ensures c.loop-n-test.true c.min-size.ensures i.shared c.min-room.ensures c.common-more.ensures
    in omega (arith, more, i.shared, c.if-more-size.true)

pub loop-n-preserved : goal.loop-n-preserved
loop-n-preserved c =
    let a = c.args in
    let i = c.loop-n.invariant in
    let more =
    front-more a.a.now a.b.now (omega arith) (omega arith) c.min-most.result c.loop-n.n c.min-room.result
    c.min-size.result c.common-more.result c.min-most.ensures c.loop-n-test.true c.min-size.ensures i.shared c.min-room.ensures c.common-more.ensures
    in let whole = front-fits a.a.now a.b.now in
    record { in_range = omega (arith, more, i.shared, i.in_range, whole, c.min-most.ensures); shared = omega (arith, more, i.shared) }

pub returns : goal.returns
returns c =
    let a = c.args in
    let i = c.loop-n.invariant in
    omega (
      arith,
      i.in_range,
      i.shared,
      c.loop-n-test.false,
      c.min-most.ensures,
      front-fits a.a.now a.b.now,
    )
