-- Blocks and single bases that agree lengthen the shared suffix; a pair that differs, or an end, is where it stops.
use Rattle.std.proofs.Common.{◌≡◌, ◌+◌, ◌-◌, length, take, drop, arith, sym, ◌∙◌}
use Rattle.definition.proofs.Prefixes.{lcs-le-left, lcs-le-right}
use Rattle.definition.proofs.Tests.{same-equal}
use Rattle.sequences.proofs.ReachLaws.{further_back, end-grows, end-stops}
use Rattle.sequences.proofs.reach.common_end.Goals as goal

pub loop-n-preserved : goal.loop-n-preserved
loop-n-preserved c =
    let l = c.loop-n in
    let a = c.args.a.now in
    let b = c.args.b.now in
    let x : length a - l.n - (length a - l.n - 32) ≡ 32 = omega arith in
    let y : length b - l.n - (length b - l.n - 32) ≡ 32 = omega arith in
    let u : length a - l.n - 32 ≡ length a - (l.n + 32) = omega arith in
    let v : length b - l.n - 32 ≡ length b - (l.n + 32) = omega arith in
    let same : take 32 (drop (length a - (l.n + 32)) a) ≡ take 32 (drop (length b - (l.n + 32)) b) =
    same-equal _ _ (rw (x, y, u, v) at (sym c.is_same.ensures ∙ c.if-is_same.true)) in
    record {
      in_range = omega arith;
      in_a = l.invariant.in_a;
      in_b = l.invariant.in_b;
      shared = further_back l.n 32 a b l.invariant.shared (omega arith) (omega arith) same;
    }

pub loop-n-2-preserved : goal.loop-n-2-preserved
loop-n-2-preserved c =
    let l = c.loop-n-2 in
    let longer = end-grows c.args.a.now c.args.b.now l.n (omega arith) (omega arith) l.invariant.shared c.if-a-n.true in
    record { in_range = omega arith; in_a = l.invariant.in_a; in_b = l.invariant.in_b; shared = longer }

pub returns-else-a-n : goal.returns-else-a-n
returns-else-a-n c =
    let l = c.loop-n-2 in
    end-stops c.args.a.now c.args.b.now l.n (omega arith) (omega arith) l.invariant.shared c.if-a-n.false

pub returns-after-loop-n-2 : goal.returns-after-loop-n-2
returns-after-loop-n-2 c =
    omega (arith, lcs-le-left c.args.a.now c.args.b.now, lcs-le-right c.args.a.now c.args.b.now, c.min-most.ensures)
