-- Which edits read the alternative. Assumes nothing.
use Rattle.std.specs.Prelude.{Bool, true, false}
use Rattle.definition.specs.declared.Edit.{Edit}
use Rattle.definition.specs.declared.Edit.TheVariants.{Insert, Duplicate, Delete, Replace, Invert}

abbrev pub reads : Edit → Bool
reads Insert = true
reads Duplicate = false
reads Delete = false
reads Replace = true
reads Invert = false
