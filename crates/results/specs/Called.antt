-- What the numbers of `Called` say over a target and the alternative's bases. Assumes nothing.
use Rattle.std.specs.Prelude.{ℕ, ◌+◌, ◌-◌, ◌≤◌, ◌≡◌, List, ◌++◌, ◌⊎◌, length, take, drop}
use Rattle.std.proofs.Math.Seq.{slice}
use Rattle.definition.specs.declared.Class.{Class}
use Rattle.definition.specs.declared.Direction.{Direction}
use Rattle.definition.specs.declared.Piece.{Piece}
use Rattle.definition.specs.Limits.{longest_allele}
use Rattle.definition.specs.Answer.{Named, named}
use Rattle.alleles.specs.Held.{held}
use Rattle.results.specs.declared.changes.Moved.{Moved}
use Rattle.results.specs.declared.classes.Anchor.{Anchor}
use Rattle.results.specs.declared.classes.Anchor.TheVariants.{Alone, First, Last}
use Rattle.results.specs.declared.classes.Called.{Called}

-- the bases of an alternative, with the base that an end rule writes beside them
abbrev pub anchored : Anchor → List ℕ → List ℕ → List ℕ
anchored Alone target bases = bases
anchored First target bases = bases ++ take 1 target
anchored Last target bases = drop (length target - 1) target ++ bases

-- the class, the range and the alleles in full
unfoldable pub called_in : List ℕ → List ℕ → Called → Named
called_in target bases n = record {
  class = n.class;
  start = n.start.0;
  end = n.end.0;
  reference = slice n.reference_start.0 (n.reference_start.0 + n.reference_size) target;
  alternative = anchored n.anchor target (take n.alternative_size bases);
}

-- the numbers say what is named, of parts that lie in the target and in the bases; and where an end rule is due, none has been applied
pub record Calls (target bases : List ℕ) (n : Called) (what : Named) : Type 0 where
  pub says : called_in target bases n ≡ what
  pub reference : n.reference_start.0 + n.reference_size ≤ length target
  pub short : n.reference_size ≤ longest_allele
  pub alternative : n.alternative_size ≤ length bases
  pub alone : (n.start.0 ≡ 0) ⊎ (n.end.0 ≡ length target + 1) → n.anchor ≡ Alone

-- the numbers say what the definition names at a place, where the reference is a part of the target
abbrev pub CallsAt : Direction → Piece → List ℕ → ℕ → ℕ → List ℕ → Called → Type 0
CallsAt direction piece target place reference_size bases n =
    Calls target bases n (named direction piece target place (slice place (place + reference_size) target) bases)

-- the same of the change as it is handed in
abbrev pub CallsMoved : Moved → Called → Type 0
CallsMoved change n =
    CallsAt change.direction change.piece change.target.now change.place.0 change.reference_size (held change.alternative.now) n

-- the same in any piece, whichever way the change was moved
abbrev pub CallsInAny : List ℕ → ℕ → ℕ → List ℕ → Called → Type 0
CallsInAny target place reference_size bases n =
    (direction : Direction) (piece : Piece) → CallsAt direction piece target place reference_size bases n

-- and over any target that holds the reference and any bases of the alternative, so many of each
abbrev pub CallsAny : ℕ → ℕ → ℕ → Called → Type 0
CallsAny place reference_size count n =
    (target bases : List ℕ) → place + reference_size ≤ length target → length bases ≡ count → CallsInAny target place reference_size bases n

-- the numbers of a change that no end rule has been applied to
abbrev pub unanchored : Class → (start end reference_start reference_size alternative_size : ℕ) → Called
unanchored class start end reference_start reference_size alternative_size = record {
  class = class;
  start = record { 0 = start };
  end = record { 0 = end };
  reference_start = record { 0 = reference_start };
  reference_size = reference_size;
  alternative_size = alternative_size;
  anchor = Alone;
}
