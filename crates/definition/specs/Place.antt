-- The places at which a pure insertion or deletion gives one altered sequence, the furthest of them, and the probes. Assumes nothing.
use Rattle.std.specs.Prelude.{ℕ, ◌+◌, ◌-◌, ◌≤◌, min, max, ◌≡◌, Bool, cond, ◌||◌, List, eqb, ltb, length}
use Rattle.definition.specs.declared.Direction.{Direction}
use Rattle.definition.specs.declared.Direction.TheVariants.{Rightward, Leftward}
use Rattle.definition.specs.declared.Piece.{Piece}
use Rattle.definition.specs.Prefix.{lcp, lcs}
use Rattle.definition.specs.Change.{splice, Trimmed}

-- A change of k reference bases at q gives the altered sequence, with some alternative
pub record Equivalent (target after : List ℕ) (k q : ℕ) : Type 0 where
  pub alternative : List ℕ
  pub fits : q + k ≤ length target
  pub same : splice target q (q + k) alternative ≡ after

-- a change of k reference bases at q lies inside the piece and inside the target
pub record Inside (piece : Piece) (target : List ℕ) (k q : ℕ) : Type 0 where
  pub at_left : piece.left.0 ≤ q
  pub at_right : q + k ≤ piece.right.0
  pub in_target : q + k ≤ length target

-- q is not further that way than best
abbrev pub NotFurther : Direction → ℕ → ℕ → Type 0
NotFurther Rightward q best = q ≤ best
NotFurther Leftward q best = best ≤ q

-- as far right as a change may end: the piece's right end and the target's
unfoldable pub right_edge : Piece → List ℕ → ℕ
right_edge piece target = min piece.right.0 (length target)

-- The furthest place that keeps the altered sequence and stays inside piece and target.
-- Rightward the two sequences must agree up to the place, leftward from the place on
unfoldable pub furthest : Direction → Piece → List ℕ → List ℕ → ℕ → ℕ
furthest Rightward piece target after k = min (lcp target after) (right_edge piece target - k)
furthest Leftward piece target after k = max (min (length target) (length after) - lcs target after) piece.left.0

-- one of the two alleles, or both, are empty
unfoldable pub is_pure : Trimmed → Bool
is_pure t = eqb t.reference_size 0 || eqb t.alternative_size 0

-- the final place of a change: a pure one moves, any other stays
unfoldable pub place_of : Direction → Piece → List ℕ → List ℕ → Trimmed → ℕ
place_of direction piece target after t = cond (is_pure t) (furthest direction piece target after t.reference_size) t.start

-- a differing base, and not an edge, stopped the move at place q
unfoldable pub stopped_by_base : Direction → Piece → List ℕ → ℕ → ℕ → Bool
stopped_by_base Rightward piece target k q = ltb (q + k) (right_edge piece target)
stopped_by_base Leftward piece target k q = ltb piece.left.0 q

-- the pairs of bases compared in the move: the distance moved, plus 1 if a differing base stopped it
unfoldable pub probes_of : Direction → Piece → List ℕ → Trimmed → ℕ → ℕ
probes_of direction piece target t q =
    cond (is_pure t)
    ((q - t.start) + (t.start - q) + cond (stopped_by_base direction piece target t.reference_size q) 1 0)
    0
