-- Each public contract decides its result: two results that it allows are equal. Assumes nothing.
use mathlib.Core.Path.{sym, ◌∙◌}
use Rattle.definition.proofs.Fixes.{Fixes}
use Rattle.asking.proofs.requests.request_of.Reads as request-of
use Rattle.asking.proofs.requests.given.Reads as given

pub request-of-one : Fixes (λ κs x at. x) request-of.Post
request-of-one κs a x y at_x at_y p q = p ∙ sym q

-- every byte of the word
pub given-one : Fixes (λ κs x at. x.now) given.Post
given-one κs a x y at_x at_y p q = p ∙ sym q
