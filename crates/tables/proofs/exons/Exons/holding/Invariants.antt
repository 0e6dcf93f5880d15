-- The exons from place `from` on hold the base where the table does, and the one at `to` ends past it.
use Rattle.std.proofs.Common.{◌-◌, ◌≡◌, ◌≤◌, drop}
use Rattle.definition.specs.Piece.{exon_holding}
use Rattle.tables.proofs.Order.{EndsPast}
use Rattle.tables.proofs.exons.Exons.holding.Given as goal

abbrev pub invariant-loop-from : goal.invariant-loop-from
invariant-loop-from l = record {
  in_order : l.from ≤ l.to;
  in_table : l.to ≤ l.exons;
  same_exon : exon_holding l.base.0 (drop l.from l.self) ≡ exon_holding l.base.0 l.self;
  ends_past : EndsPast l.base.0 (drop l.to l.self);
}

abbrev pub decreases-loop-from : goal.decreases-loop-from
decreases-loop-from l = l.to - l.from
