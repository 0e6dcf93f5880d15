-- What the public contracts leave open: of any two results that a rule allows, class, range and both alleles are equal. Not fixed is where an
-- empty reference stands. Assumes nothing.
use mathlib.Core.Path.{◌≡◌, sym, ◌∙◌}
use mathlib.Core.List.{List}
use Prim.Native.Nat.{ℕ}
use Rattle.definition.specs.Answer.{Named}
use Rattle.results.specs.declared.classes.Called.{Called}
use Rattle.results.specs.Called.{called_in, Calls}
use Rattle.results.specs.Rules.{Applies}

pub rule-one : (rule : Named → Named) (target bases : List ℕ) (called m n : Called) (what : Named) → Calls target bases called what
    → Applies rule target called m → Applies rule target called n → called_in target bases m ≡ called_in target bases n
rule-one rule target bases called m n what h p q = (p bases what h).says ∙ sym (q bases what h).says
