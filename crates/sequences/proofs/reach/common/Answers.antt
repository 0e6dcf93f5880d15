-- Blocks and single bases that agree lengthen the shared prefix; a pair that differs, or an end, is where it stops.
use Rattle.std.proofs.Common.{◌≡◌, suc, ◌+◌, ◌-◌, ◌≤◌, take, drop, arith, sym, ◌∙◌}
use Rattle.definition.specs.Prefix.{lcp}
use Rattle.definition.proofs.Prefixes.{lcp-le-left, lcp-le-right}
use Rattle.definition.proofs.Tests.{same-equal}
use Rattle.definition.proofs.Steps.{lcp-next, lcp-stop}
use Rattle.sequences.proofs.ReachLaws.{further}
use Rattle.sequences.proofs.reach.common.Goals as goal

pub loop-n-preserved : goal.loop-n-preserved
loop-n-preserved c =
    let l = c.loop-n in
    let a = c.args.a.now in
    let b = c.args.b.now in
    let size : l.n + 32 - l.n ≡ 32 = omega arith in
    let same : take 32 (drop l.n a) ≡ take 32 (drop l.n b) =
    same-equal _ _ (rw size at (sym c.is_same.ensures ∙ c.if-is_same.true)) in
    record {
      in_range = omega arith;
      in_a = l.invariant.in_a;
      in_b = l.invariant.in_b;
      shared = further l.n 32 a b l.invariant.shared (omega arith) (omega arith) same;
    }

pub loop-n-2-preserved : goal.loop-n-2-preserved
loop-n-2-preserved c =
    let l = c.loop-n-2 in
    let longer : suc l.n ≤ lcp c.args.a.now c.args.b.now = lcp-next c.args.a.now c.args.b.now l.n l.invariant.shared (omega arith) (omega arith) c.if-a-n.true in
    record { in_range = omega arith; in_a = l.invariant.in_a; in_b = l.invariant.in_b; shared = omega arith }

pub returns-else-a-n : goal.returns-else-a-n
returns-else-a-n c = lcp-stop c.args.a.now c.args.b.now c.loop-n-2.n c.loop-n-2.invariant.shared c.if-a-n.false

pub returns-after-loop-n-2 : goal.returns-after-loop-n-2
returns-after-loop-n-2 c =
    omega (arith, lcp-le-left c.args.a.now c.args.b.now, lcp-le-right c.args.a.now c.args.b.now, c.min-most.ensures)
