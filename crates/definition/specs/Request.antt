-- A request as the caller makes it: codes and numbers as they come, the tables as bytes. Assumes nothing.
use Rattle.std.specs.Prelude.{ℕ, zero, suc, cond, List, eqb, ℤ, pos, negsuc}
use Rattle.definition.specs.declared.Kind.{Kind}
use Rattle.definition.specs.declared.Kind.TheVariants.{Open, Transcript, Crossing}
use Rattle.definition.specs.declared.Edit.{Edit}
use Rattle.definition.specs.declared.Edit.TheVariants.{Insert, Duplicate, Delete, Replace, Invert}
use Rattle.definition.specs.declared.Direction.{Direction}
use Rattle.definition.specs.declared.Direction.TheVariants.{Rightward, Leftward}
use Rattle.definition.specs.declared.Bound.{Bound}
use Rattle.definition.specs.declared.Bound.TheVariants.{Absent, At, Negative}
use Rattle.definition.specs.Change.{Change, spelled, altered}
use Rattle.std.specs.Int.Signed.{mag}
use Rattle.definition.specs.declared.Zero.{Zero}
use Rattle.std.specs.Prelude.{None, Option, Some}

pub record Request : Type 0 where
  pub target : List ℕ
  pub kind_code : ℕ
  pub exon_bytes : List ℕ
  pub cds_start : ℤ
  pub cds_end : ℤ
  pub range_start : ℤ
  pub range_end : ℤ
  pub edit_code : ℕ
  pub alternative : List ℕ
  pub direction_code : ℕ
  pub window : ℕ
  pub reference_room : ℕ
  pub alternative_room : ℕ

-- the codes count from 0; those past the last are refused by row 1, so what they are read as does not show
unfoldable pub kind_of : ℕ → Kind
kind_of code = cond (eqb code 0) Open (cond (eqb code 1) Transcript Crossing)

unfoldable pub edit_of : ℕ → Edit
edit_of code = cond (eqb code 0) Insert (cond (eqb code 1) Duplicate (cond (eqb code 2) Delete (cond (eqb code 3) Replace Invert)))

unfoldable pub direction_of : ℕ → Direction
direction_of code = cond (eqb code 0) Rightward Leftward

-- an end of a range
unfoldable pub coordinate_of : ℤ → Option Zero
coordinate_of (pos n) = Some (record { 0 = n })
coordinate_of (negsuc n) = None

-- a CDS bound: -1 is absent, any other negative number breaks a table rule
unfoldable pub bound_of : ℤ → Bound
bound_of (pos n) = At n
bound_of (negsuc zero) = Absent
bound_of (negsuc (suc n)) = Negative

-- the range's two numbers; a negative one is refused by row 5, so what it is read as does not show
unfoldable pub start_of : Request → ℕ
start_of r = mag r.range_start

unfoldable pub end_of : Request → ℕ
end_of r = mag r.range_end

-- the change that a request spells
unfoldable pub change_of : Request → Change
change_of r = spelled (edit_of r.edit_code) r.target (start_of r) (end_of r) r.alternative

-- and its altered sequence
abbrev pub altered_by : Request → List ℕ
altered_by r = altered r.target (change_of r)
