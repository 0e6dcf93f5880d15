-- Each public contract decides its result: two results that it allows for the same arguments are equal. The theorems are about the contracts as the
-- source states them. Assumes nothing.
use mathlib.Core.Path.{sym, ◌∙◌}
use Rattle.definition.proofs.Fixes.{Fixes}
use Rattle.asking.proofs.text.part.Reads as part
use Rattle.asking.proofs.text.find.Reads as find
use Rattle.asking.proofs.text.after.Reads as after

-- every byte of a part
pub part-one : Fixes (λ κs x at. x.now) part.Post
part-one κs a x y at_x at_y p q = p ∙ sym q

pub find-one : Fixes (λ κs x at. x) find.Post
find-one κs a x y at_x at_y p q = p.0 ∙ sym q.0

pub after_one : Fixes (λ κs x at. x) after.Post
after_one κs a x y at_x at_y p q = p.0 ∙ sym q.0
