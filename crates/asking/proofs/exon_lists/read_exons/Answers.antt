-- What the split yields are the parts of the definition.
use Rattle.std.proofs.Common.{refl, arith, rules, tests}
use Rattle.std.proofs.lemmas.List.{length_push}
use Rattle.std.proofs.lemmas.Result.{err_from_is_err_and}
use Rattle.asking.proofs.Splits.{part-turn, part-end}
use Rattle.asking.proofs.ExonListsReading.{start, done, refused, onward}
use Rattle.asking.proofs.exon_lists.read_exons.Goals as goal

pub loop-pair-init : goal.loop-pair-init
loop-pair-init c = start _ _

pub returns-in_err-size : goal.returns-in_err-size
returns-in_err-size c =
    let split = c.split-pair-items.ensures in
    let turn =
    part-turn _ c.into_iter-pair-iterator.ensures.into_iter_gives c.loop-pair.yielded _ c.loop-pair.yielded_by 44 c.args.list.now split.rest split.done split.closure (λ x b q k. search (rules, tests))
    _ _ c.in-Some.pair c.in-Some.is c.next.ensures.steps in
    let p = err_from_is_err_and c.from_residual.result c.from_residual.ensures.1 in
    let put = c.in_err-size.ensures in
    let all = refused _ _ c.loop-pair.invariant turn put.value put.table_after refl in
    record { value = rw (p.1, p.2) all.0; table_after = all.1 }

pub loop-pair-preserved : goal.loop-pair-preserved
loop-pair-preserved c =
    let split = c.split-pair-items.ensures in
    let turn =
    part-turn _ c.into_iter-pair-iterator.ensures.into_iter_gives c.loop-pair.yielded _ c.loop-pair.yielded_by 44 c.args.list.now split.rest split.done split.closure (λ x b q k. search (rules, tests))
    _ _ c.in-Some.pair c.in-Some.is c.next.ensures.steps in
    let put = c.in_ok-size.ensures in
    onward _ _ c.loop-pair.invariant turn put.value put.table_after refl (length_push _ _)

pub returns : goal.returns
returns c =
    let split = c.split-pair-items.ensures in
    let end =
    part-end _ c.into_iter-pair-iterator.ensures.into_iter_gives c.loop-pair.yielded _ c.loop-pair.yielded_by 44 c.args.list.now split.rest split.done split.closure (λ x b q k. search (rules, tests))
    _ _ c.in-None.is c.next.ensures.steps in
    let all = done _ _ c.loop-pair.invariant (omega (arith, end)) in
    record { value = all.0; table_after = all.1 }
