-- Where a copy begins, if there is one. Assumes nothing.
use Rattle.std.specs.Prelude.{ℕ, Bool, cond, Option, Some, None}
use Rattle.definition.specs.declared.Zero.{Zero}

abbrev pub found : Bool → ℕ → Option Zero
found copy start = cond copy (Some (record { 0 = start })) None
