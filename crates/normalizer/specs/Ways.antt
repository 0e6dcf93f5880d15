-- Which requests that pass the rows are answered at once, and with what class. Assumes nothing.
use Rattle.std.specs.Prelude.{Option, Some, None, cond, ◌&&◌, List, ℕ, ◌+◌, eqb, length}
use Rattle.std.proofs.Math.Seq.{slice}
use Rattle.definition.specs.declared.Class.{Class}
use Rattle.definition.specs.declared.Class.TheVariants.{Unchanged, Replacement}
use Rattle.definition.specs.declared.Edit.{Edit}
use Rattle.definition.specs.declared.Edit.TheVariants.{Insert, Duplicate, Delete, Replace, Invert}
use Rattle.definition.specs.Bases.{same_bases}
use Rattle.definition.specs.Answer.{Named}

-- the class at once of a replacement: by the same bases, of one base by one other, or none; and that of any edit
unfoldable pub replaced_way : List ℕ → List ℕ → Option Class
replaced_way reference alternative =
    cond (same_bases reference alternative) (Some Unchanged) (cond (eqb (length reference) 1 && eqb (length alternative) 1) (Some Replacement) None)

unfoldable pub way_of : Edit → List ℕ → ℕ → ℕ → List ℕ → Option Class
way_of Insert target start end alternative = None
way_of Duplicate target start end alternative = None
way_of Delete target start end alternative = None
way_of Replace target start end alternative = replaced_way (slice start end target) alternative
way_of Invert target start end alternative = None

-- a change that is answered in place, by its range and both alleles
abbrev pub in_place : Class → List ℕ → ℕ → ℕ → List ℕ → Named
in_place class target start end alternative =
    record { class = class; start = start + 1; end = end; reference = slice start end target; alternative = alternative }
