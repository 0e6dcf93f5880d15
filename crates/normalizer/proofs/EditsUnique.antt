-- Each public contract decides its result: two results that it allows are equal. Assumes nothing.
use mathlib.Core.Path.{sym, ◌∙◌}
use Rattle.definition.proofs.Fixes.{Fixes}
use Rattle.normalizer.proofs.edits.bad_insertion.Reads as bad-insertion
use Rattle.normalizer.proofs.edits.reads_alternative.Reads as reads-alternative

pub bad-insertion-one : Fixes (λ κs x at. x) bad-insertion.Post
bad-insertion-one κs a x y at_x at_y p q = p ∙ sym q

pub reads-alternative-one : Fixes (λ κs x at. x) reads-alternative.Post
reads-alternative-one κs a x y at_x at_y p q = p ∙ sym q
