-- What a contract fixes of a name and of a page: any two results that it allows for the same arguments are equal, the count and every byte. They are
-- about the contracts as the source states them. Assumes nothing.
use mathlib.Core.Path.{sym, ◌∙◌}
use Rattle.definition.proofs.Fixes.{Fixes}
use Rattle.asking.specs.Page.{shown}
use Rattle.asking.proofs.TerminalUnique.{one-page}
use Rattle.asking.proofs.values.class_name.Reads as class-name
use Rattle.asking.proofs.values.put_class.Reads as put-class
use Rattle.asking.proofs.values.put_range.Reads as put-range
use Rattle.asking.proofs.values.put_allele.Reads as put-allele

-- every byte of a name
pub class-name-one : Fixes (λ κs x at. x.now) class-name.Post
class-name-one κs a x y at_x at_y p q = p ∙ sym q

pub put-class-one-page : Fixes (λ κs x at. shown at.0.now) put-class.Post
put-class-one-page κs a x y at_x at_y p q = one-page p q

pub put-range-one-page : Fixes (λ κs x at. shown at.0.now) put-range.Post
put-range-one-page κs a x y at_x at_y p q = one-page p q

pub put-allele-one-page : Fixes (λ κs x at. shown at.0.now) put-allele.Post
put-allele-one-page κs a x y at_x at_y p q = one-page p q
