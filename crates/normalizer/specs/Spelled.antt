-- The change that an edit spells, in two parts: the gaps between which it stands, and the bases that it copies. Assumes nothing.
use Rattle.std.specs.Prelude.{List, [], ℕ, ◌+◌}
use Rattle.std.proofs.Math.Seq.{slice}
use Rattle.definition.specs.declared.Edit.{Edit}
use Rattle.definition.specs.declared.Edit.TheVariants.{Insert, Duplicate, Delete, Replace, Invert}
use Rattle.definition.specs.declared.Zero.{Zero}
use Rattle.normalizer.specs.declared.spelling.Gaps.{Gaps}

unfoldable pub gaps_of : Edit → Zero → Zero → Gaps
gaps_of Insert start end = record { from = record { 0 = start.0 + 1 }; to = record { 0 = start.0 + 1 } }
gaps_of Duplicate start end = record { from = end; to = end }
gaps_of Delete start end = record { from = start; to = end }
gaps_of Replace start end = record { from = start; to = end }
gaps_of Invert start end = record { from = start; to = end }

-- the bases of the target that an edit puts in once more
unfoldable pub copied_by : Edit → List ℕ → ℕ → ℕ → List ℕ
copied_by Insert target start end = []
copied_by Duplicate target start end = slice start end target
copied_by Delete target start end = []
copied_by Replace target start end = []
copied_by Invert target start end = []
