-- The exons from place i on fit after `before` exactly if all do from 0.
use Rattle.std.proofs.Common.{◌≡◌, drop}
use Rattle.definition.specs.Piece.{exons_fit}
use Rattle.tables.proofs.exons.Exons.fit.Given as goal

abbrev pub invariant-loop-i : goal.invariant-loop-i
invariant-loop-i l = record {
  same_order : exons_fit l.size l.before (drop l.i l.self) ≡ exons_fit l.size 0 l.self;
}
