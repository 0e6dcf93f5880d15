-- What the caller shows of the answer buffers, and of what is called. Assumes nothing.
use Rattle.std.specs.Prelude.{ℕ, ◌+◌, ◌≤◌, List, length}
use Rattle.definition.specs.Limits.{answer_room}
use Rattle.alleles.specs.Window.{Placed}
use Rattle.results.specs.declared.classes.Called.{Called}

-- each answer buffer holds an allele and one base more. A clause, and not an invariant of `Buffers`: row 9 tests it of buffers that stand before, and a
-- second type of them for behind that row would be no plainer
pub record Room (reference_out alternative_out : List ℕ) : Type 0 where
  pub reference : answer_room ≤ length reference_out
  pub alternative : answer_room ≤ length alternative_out

-- what is called lies in the target, and what is written in the buffers
pub record Fits (target : List ℕ) (called : Called) (head : ℕ) (reference_out alternative_out : List ℕ) : Type 0 where
  pub nonempty : 1 ≤ length target
  pub in_target : called.reference_start.0 + called.reference_size ≤ length target
  pub reference : called.reference_size ≤ length reference_out
  pub placed : Placed head called.alternative_size
  pub alternative : called.alternative_size + 1 ≤ length alternative_out
