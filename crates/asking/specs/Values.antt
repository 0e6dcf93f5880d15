-- The values of an answer, in words. Assumes nothing.
use Rattle.std.specs.Prelude.{ℕ, cond, List, ◌++◌, eqb}
use Rattle.definition.specs.declared.Class.{Class}
use Rattle.definition.specs.declared.Class.TheVariants.{Insertion, Duplication, Deletion, Replacement, Inversion, Unchanged}
use Rattle.asking.specs.Text.{ascii}
use Rattle.asking.specs.Digits.{decimal_text}
use Rattle.asking.specs.Text.{part_of}

unfoldable pub class_name : Class → List ℕ
class_name Insertion = ascii "insertion"
class_name Duplication = ascii "duplication"
class_name Deletion = ascii "deletion"
class_name Replacement = ascii "replacement"
class_name Inversion = ascii "inversion"
class_name Unchanged = ascii "unchanged"

-- a range with both ends in it
abbrev pub range_text : ℕ → ℕ → List ℕ
range_text start end = decimal_text start ++ ascii "," ++ decimal_text end

-- an allele, which is the front of its buffer: a dash where it is empty
abbrev pub allele_text : List ℕ → ℕ → List ℕ
allele_text buffer size = cond (eqb size 0) (ascii "-") (part_of buffer 0 size)
