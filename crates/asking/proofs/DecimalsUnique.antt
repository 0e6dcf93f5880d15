-- The public contract decides its result: two results that it allows for the same arguments are equal. The theorem is about the contract as the
-- source states it. Assumes nothing.
use mathlib.Core.Path.{sym, ◌∙◌}
use Rattle.definition.proofs.Fixes.{Fixes}
use Rattle.asking.proofs.decimals.decimal.Reads as decimal

pub decimal-one : Fixes (λ κs x at. x) decimal.Post
decimal-one κs a x y at_x at_y p q = p ∙ sym q
