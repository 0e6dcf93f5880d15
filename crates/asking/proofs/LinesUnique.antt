-- Each public contract decides every byte of its result: two results that it allows for the same arguments are equal. Assumes nothing.
use mathlib.Core.Path.{sym, ◌∙◌}
use Rattle.definition.proofs.Fixes.{Fixes}
use Rattle.asking.proofs.lines.word.Reads as word
use Rattle.asking.proofs.lines.line.Reads as line

pub word-one : Fixes (λ κs x at. x.now) word.Post
word-one κs a x y at_x at_y p q = p ∙ sym q

pub line-one : Fixes (λ κs x at. x.now) line.Post
line-one κs a x y at_x at_y p q = p.is ∙ sym q.is
