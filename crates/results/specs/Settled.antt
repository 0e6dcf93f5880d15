-- What the caller shows of a change at its final place. Assumes nothing.
use Rattle.std.specs.Prelude.{ℕ, ◌+◌, ◌≤◌, List, length}
use Rattle.definition.specs.Limits.{longest_target, longest_allele}
use Rattle.alleles.specs.Window.{Placed}
use Rattle.results.specs.declared.changes.Moved.{Moved}

-- the reference lies in the target, the alternative in its buffer, and both alleles are as short as a request's
pub record Settled (target : List ℕ) (place reference_size head count : ℕ) : Type 0 where
  pub nonempty : 1 ≤ length target
  pub short : length target ≤ longest_target
  pub in_target : place + reference_size ≤ length target
  pub reference : reference_size ≤ longest_allele
  pub placed : Placed head count
  pub alternative : count ≤ longest_allele

-- the same of the change as it is handed in; why it is a clause and no invariant stands at `Moved`
abbrev pub IsSettled : Moved → Type 0
IsSettled change = Settled change.target.now change.place.0 change.reference_size change.alternative.now.head change.alternative.now.count
