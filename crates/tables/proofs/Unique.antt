-- Each public contract decides its result: two results that it allows are equal. Assumes nothing.
use mathlib.Core.Path.{sym, ◌∙◌}
use Rattle.definition.proofs.Fixes.{Fixes}
use Rattle.tables.proofs.tables_hold.Reads as tables-hold
use Rattle.tables.proofs.bad_tables.Reads as bad-tables

pub tables-hold-one : Fixes (λ κs x at. x) tables-hold.Post
tables-hold-one κs a x y at_x at_y p q = p ∙ sym q

pub bad-tables-one : Fixes (λ κs x at. x) bad-tables.Post
bad-tables-one κs a x y at_x at_y p q = p ∙ sym q
