-- The public contracts decide a refusal's name, and the page and its count: two results that one allows for the same arguments are equal. Assumes
-- nothing.
use mathlib.Core.Path.{sym, ◌∙◌}
use Rattle.definition.proofs.Fixes.{Fixes}
use Rattle.asking.specs.Page.{shown}
use Rattle.asking.proofs.TerminalUnique.{one-page}
use Rattle.asking.proofs.refusals.refusal_name.Reads as refusal-name
use Rattle.asking.proofs.refusals.put_refusal.Reads as put-refusal

-- every byte of a name
pub refusal-name-one : Fixes (λ κs x at. x.now) refusal-name.Post
refusal-name-one κs a x y at_x at_y p q = p ∙ sym q

pub put-refusal-one-page : Fixes (λ κs x at. shown at.0.now) put-refusal.Post
put-refusal-one-page κs a x y at_x at_y p q = one-page p q
