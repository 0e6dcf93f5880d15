-- The letters of one record of a file. Assumes nothing.
use Rattle.std.specs.Prelude.{ℕ, zero, suc, ◌-◌, Bool, true, false, cond, ◌||◌, List, [], ◌∷◌, ltb, eqb, length, take, Result, Ok, Err}
use Rattle.asking.specs.Text.{part_of, found_at}
use Rattle.definition.specs.Reply.{written}
use Rattle.asking.specs.declared.problems.Unread.{Unread}
use Rattle.asking.specs.declared.problems.Unread.TheVariants.{LongTarget, SecondRecord}

-- a letter in upper case; every other byte stays as it is
unfoldable pub upper_case : ℕ → ℕ
upper_case byte = cond (ltb byte 97) byte (cond (ltb 122 byte) byte (byte - 32))

-- a space, a tab or a part of a line's end
unfoldable pub is_blank : ℕ → Bool
is_blank byte = eqb byte 32 || eqb byte 9 || eqb byte 10 || eqb byte 13

-- where the letters of a file begin: behind its first line, if that is a FASTA header (62 is >, 10 a line's end)
unfoldable pub letters_start : List ℕ → ℕ
letters_start [] = 0
letters_start (byte ∷ rest) = cond (eqb byte 62) (found_at (byte ∷ rest) 0 10) 0

-- where the record ends: at the next header, else with the file
abbrev pub record_end : List ℕ → ℕ
record_end text = found_at text (letters_start text) 62

abbrev pub record_of : List ℕ → List ℕ
record_of text = part_of text (letters_start text) (record_end text)

-- its letters: without the blanks, in upper case
unfoldable pub letters_of : List ℕ → List ℕ
letters_of [] = []
letters_of (byte ∷ rest) = cond (is_blank byte) (letters_of rest) (upper_case byte ∷ letters_of rest)

-- whether bytes are left when there is room for no more letters
unfoldable pub overflows : ℕ → List ℕ → Bool
overflows room [] = false
overflows zero (byte ∷ rest) = true
overflows (suc room) (byte ∷ rest) = cond (is_blank byte) (overflows (suc room) rest) (overflows room rest)

-- what keeping the letters of some bytes comes to; a file of two records is refused behind the first
abbrev pub kept_in : ℕ → List ℕ → Result ℕ Unread
kept_in room bytes = cond (overflows room bytes) (Err LongTarget) (Ok (length (letters_of bytes)))

abbrev pub behind_record : Bool → Result ℕ Unread → Result ℕ Unread
behind_record more (Ok size) = cond more (Err SecondRecord) (Ok size)
behind_record more (Err why) = Err why

abbrev pub letters_read : ℕ → List ℕ → Result ℕ Unread
letters_read room text = behind_record (ltb (record_end text) (length text)) (kept_in room (record_of text))

-- the target then: the letters for which it has room at its front, and the rest as it was
abbrev pub letters_laid : List ℕ → List ℕ → List ℕ
letters_laid bytes target = written (take (length target) (letters_of bytes)) target
