-- What a contract fixes of a page: any two results that it allows for the same arguments are equal, the count and every byte. The theorems are
-- about the contracts as the source states them. Assumes nothing.
use Rattle.definition.proofs.Fixes.{Fixes}
use Rattle.asking.specs.Page.{shown}
use Rattle.asking.proofs.TerminalUnique.{one-page}
use Rattle.asking.proofs.problems.put_problem.Reads as put-problem

pub put-problem-one-page : Fixes (λ κs x at. shown at.0.now) put-problem.Post
put-problem-one-page κs a x y at_x at_y p q = one-page p q
