-- A table that passes row 10 is in order.
use Rattle.std.proofs.Common.{sym, ◌∙◌}
use Rattle.boundary.proofs.Within.{table-in-order}
use Rattle.boundary_rows.proofs.found_for.Goals as goal

pub piece_for-requires-then-tables_hold : goal.piece_for-requires-then-tables_hold
piece_for-requires-then-tables_hold c =
    (c.requires, rw c.in-Transcript.is (table-in-order _ _ _ _ (sym c.tables_hold.ensures ∙ c.if-tables_hold.true)))
