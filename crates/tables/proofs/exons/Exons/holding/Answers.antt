-- Where the exon in the middle ends at or before the base, so do all before it.
use Rattle.std.proofs.Common.{sym, ◌∙◌, ◌+◌, ◌/◌, arith}
use Rattle.tables.proofs.Order.{in-order-drop, held-behind, held-nowhere}
use Rattle.tables.proofs.exons.Exons.holding.Goals as goal

pub loop-from-preserved : goal.loop-from-preserved
loop-from-preserved c =
    let middle = (c.loop-from.from + c.loop-from.to) / 2 in
    record {
      in_order = omega arith;
      in_table = omega arith;
      same_exon = sym (held-behind _ 0 middle c.args.self.now _ _ c.requires c.get-exon.ensures c.if-base-exon.false);
      ends_past = c.loop-from.invariant.ends_past;
    }

pub returns-then-base-exon-2 : goal.returns-then-base-exon-2
returns-then-base-exon-2 c =
    let ordered = in-order-drop c.loop-from.from c.args.self.now c.requires in
    held-nowhere _ _ _ _ c.get-exon-2.ensures ordered c.if-base-exon-2.true ∙ c.loop-from.invariant.same_exon
