-- Each public contract decides its result: two results that it allows for the same arguments are equal, and of a page the count and every byte. The
-- theorems are about the contracts as the source states them. Assumes nothing.
use mathlib.Core.Path.{◌≡◌, sym, ◌∙◌}
use mathlib.Core.List.{List}
use Prim.Native.Nat.{ℕ}
use Rattle.definition.proofs.Fixes.{Fixes}
use Rattle.asking.specs.Page.{Put, shown}
use Rattle.asking.specs.declared.terminal.Page as terminal
use Rattle.asking.proofs.terminal.Page.new.Reads as new
use Rattle.asking.proofs.terminal.Page.over.Reads as over
use Rattle.asking.proofs.terminal.Page.text.Reads as text
use Rattle.asking.proofs.terminal.Page.put_byte.Reads as put_byte
use Rattle.asking.proofs.terminal.Page.put.Reads as put

pub one-page : {before after other : terminal.Page} {text : List ℕ} → Put before text after → Put before text other → shown after ≡ shown other
one-page p q = p.held ∙ sym q.held

pub new-one-page : Fixes (λ κs x at. shown x) new.Post
new-one-page κs a x y at_x at_y p q = p.0 ∙ sym q.0

pub over-one-page : Fixes (λ κs x at. shown x) over.Post
over-one-page κs a x y at_x at_y p q = p.0 ∙ sym q.0

pub text-one : Fixes (λ κs x at. x.now) text.Post
text-one κs a x y at_x at_y p q = p ∙ sym q

pub put-byte-one-page : Fixes (λ κs x at. shown at.0.now) put_byte.Post
put-byte-one-page κs a x y at_x at_y p q = one-page p q

pub put-one-page : Fixes (λ κs x at. shown at.0.now) put.Post
put-one-page κs a x y at_x at_y p q = one-page p q
