-- The move as docs/RULES.md tells it: one base at a time, while the altered sequence stays the same and the change stays inside piece and target. The
-- place where it ends and the pairs of bases that it compares are counted as it goes; that they are the definition's place and probes is a law.
-- Assumes nothing.
use Rattle.std.specs.Prelude.{ℕ, zero, suc, ◌+◌, ◌-◌, Bool, cond, List, eqb, leb, get_or}
use Rattle.definition.specs.declared.Direction.{Direction}
use Rattle.definition.specs.declared.Direction.TheVariants.{Rightward, Leftward}
use Rattle.definition.specs.declared.Piece.{Piece}
use Rattle.definition.specs.Place.{right_edge}

pub record Walked : Type 0 where
  pub place : ℕ
  pub compared : ℕ

-- a change of k reference bases at q has no room for a step
unfoldable pub at_edge : Direction → Piece → List ℕ → ℕ → ℕ → Bool
at_edge Rightward piece target k q = leb (right_edge piece target) (q + k)
at_edge Leftward piece target k q = leb q piece.left.0

-- The pair that the next step compares: rightward the bases at the place itself, leftward those before the two rests, k reference bases and m
-- alternative ones further on
unfoldable pub pair_agrees : Direction → List ℕ → List ℕ → ℕ → ℕ → ℕ → Bool
pair_agrees Rightward target after k m q = eqb (get_or target q 0) (get_or after q 0)
pair_agrees Leftward target after k m q = eqb (get_or target (q - 1 + k) 0) (get_or after (q - 1 + m) 0)

unfoldable pub onward : Direction → ℕ → ℕ
onward Rightward q = suc q
onward Leftward q = q - 1

unfoldable pub one_more : Walked → Walked
one_more w = record { place = w.place; compared = w.compared + 1 }

-- at most so many steps from q
abbrev pub walk : Direction → Piece → List ℕ → List ℕ → ℕ → ℕ → ℕ → ℕ → Walked
walk direction piece target after k m zero q = record { place = q; compared = 0 }
walk direction piece target after k m (suc steps) q =
    cond (at_edge direction piece target k q) (record { place = q; compared = 0 })
    (cond (pair_agrees direction target after k m q) (one_more (walk direction piece target after k m steps (onward direction q)))
    (record { place = q; compared = 1 }))
