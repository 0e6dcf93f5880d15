-- The range as row 5 reads it. Assumes nothing.
use Rattle.std.specs.Prelude.{ℕ, cond, ◌||◌, leb, ltb, ℤ, pos}
use Rattle.std.specs.Int.Signed.{lt_z, le_z, mag}
use Rattle.definition.specs.declared.Zero.{Zero}
use Rattle.definition.specs.declared.Range.{Range}
use Rattle.std.specs.Prelude.{None, Option, Some}

abbrev pub range_from : Zero → Zero → Range
range_from from to = record { start = from; end = to }

-- row 5 as the definition has it, and the two numbers where it is not given
unfoldable pub range_read : ℤ → ℤ → ℕ → Option Range
range_read start end size =
    cond (lt_z start (pos 0) || le_z end start || lt_z (pos size) end) None (Some (range_from (record { 0 = mag start }) (record { 0 = mag end })))

-- the same of two ends that were read
abbrev pub ordered_range : Zero → Zero → ℕ → Option Range
ordered_range from to size = cond (leb to.0 from.0) None (cond (ltb size to.0) None (Some (range_from from to)))

abbrev pub range_of : Option Zero → Option Zero → ℕ → Option Range
range_of (Some from) (Some to) size = ordered_range from to size
range_of (Some from) None size = None
range_of None last size = None
