-- What the public contract leaves open: of any two results that it allows, class, range and both alleles are equal. Not fixed is where an empty
-- reference stands. Assumes nothing.
use mathlib.Core.Path.{◌≡◌, sym, ◌∙◌}
use mathlib.Core.List.{List}
use Prim.Native.Nat.{ℕ}
use Rattle.definition.specs.declared.Direction.{Direction}
use Rattle.definition.specs.declared.Piece.{Piece}
use Rattle.results.specs.declared.classes.Called.{Called}
use Rattle.results.specs.Called.{called_in, CallsAt}

pub named-one : (direction : Direction) (piece : Piece) (target : List ℕ) (place reference_size : ℕ) (bases : List ℕ) (m n : Called)
    → CallsAt direction piece target place reference_size bases m → CallsAt direction piece target place reference_size bases n
    → called_in target bases m ≡ called_in target bases n
named-one direction piece target place reference_size bases m n p q = p.says ∙ sym q.says
