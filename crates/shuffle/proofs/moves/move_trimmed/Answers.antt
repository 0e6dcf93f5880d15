-- What is left of the change lies in target and insertion, and it stays or is handed to a slide.
use Rattle.std.proofs.Common.{arith, rules}
use Rattle.shuffle.proofs.Settles.{reference-left, back-inside, inserted-left, in_target, filled-stays, filled-poised, filled-settles}
use Rattle.shuffle.proofs.moves.move_trimmed.Goals as goal

pub overflow_add-start : goal.overflow_add-start
overflow_add-start c = omega (arith, reference-left c.requires.asked c.requires.shares, back-inside c.requires.asked c.requires.shares, in_target c.requires.asked c.requires.shares)

pub overflow_sub-end : goal.overflow_sub-end
overflow_sub-end c = omega (arith, back-inside c.requires.asked c.requires.shares)

pub overflow_sub-last : goal.overflow_sub-last
overflow_sub-last c = omega (arith, inserted-left c.requires.asked c.requires.shares)

pub slice_bounds-fill-count : goal.slice_bounds-fill-count
slice_bounds-fill-count c = omega (arith, reference-left c.requires.asked c.requires.shares)

pub slice_bounds-fill-start : goal.slice_bounds-fill-start
slice_bounds-fill-start c = omega (arith, reference-left c.requires.asked c.requires.shares)

pub slice_bounds-fill-end : goal.slice_bounds-fill-end
slice_bounds-fill-end c = omega (arith, in_target c.requires.asked c.requires.shares)

pub slice_bounds-fill-count-2 : goal.slice_bounds-fill-count-2
slice_bounds-fill-count-2 c = omega (arith, inserted-left c.requires.asked c.requires.shares)

pub slice_bounds-fill-start-2 : goal.slice_bounds-fill-start-2
slice_bounds-fill-start-2 c = omega (arith, inserted-left c.requires.asked c.requires.shares)

pub returns-then-front-last : goal.returns-then-front-last
returns-then-front-last c =
    filled-stays c.requires.asked c.requires.shares c.fill.ensures c.fill-2.ensures c.if-start-end.true c.if-front-last.true

pub slide-requires : goal.slide-requires
slide-requires c = filled-poised c.requires.asked c.requires.shares c.fill.ensures c.fill-2.ensures (search rules)

pub returns : goal.returns
returns c =
    filled-settles c.requires.asked c.requires.shares c.fill.ensures c.fill-2.ensures (search rules) _ _ c.slide.result c.slide.ensures
