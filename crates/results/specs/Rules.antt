-- What the end rules say over the numbers of a change. Assumes nothing.
use Rattle.std.specs.Prelude.{ℕ, ◌≡◌, List, ◌++◌, length}
use Rattle.definition.specs.declared.Class.{Class}
use Rattle.definition.specs.Answer.{Named, replaced_or_unchanged}
use Rattle.results.specs.declared.classes.Called.{Called}
use Rattle.results.specs.Called.{Calls}

-- a rule of the definition, applied to the numbers
abbrev pub Applies : (Named → Named) → List ℕ → Called → Called → Type 0
Applies rule target n r = (bases : List ℕ) (what : Named) → Calls target bases n what → Calls target bases r (rule what)

-- the class under the first-base rule of any bases, so many, before any first base
abbrev pub FirstClass : ℕ → Class → Type 0
FirstClass count class = (first bases : List ℕ) → length bases ≡ count → class ≡ replaced_or_unchanged first (bases ++ first)
