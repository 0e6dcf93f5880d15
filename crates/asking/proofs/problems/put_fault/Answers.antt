-- The option and what stands beside it are one sentence.
use Rattle.asking.proofs.Pages.{then}
use Rattle.asking.specs.Problems.{fault_text}
use Rattle.asking.proofs.problems.put_fault.Goals as goal

pub returns-in-UnknownOption : goal.returns-in-UnknownOption
unfolding fault_text
returns-in-UnknownOption c = rw c.in-UnknownOption.is (then c.put.ensures (then c.put-in-UnknownOption.ensures c.put-in-UnknownOption-2.ensures))

pub returns-in-NoValue : goal.returns-in-NoValue
unfolding fault_text
returns-in-NoValue c = rw c.in-NoValue.is (then c.put-in-NoValue.ensures c.put-in-NoValue-2.ensures)
