-- Each public contract decides its result: two results that it allows are equal. Assumes nothing.
use Rattle.definition.proofs.Fixes.{Fixes}
use Rattle.tables.proofs.little_endian.number_at.Reads as number_at

pub number-at-one : Fixes (λ κs x at. x) number_at.Post
number-at-one κs a x y at_x at_y p q = cc
