-- A field with its runs written out: A*50 is fifty As. Assumes nothing.
use Rattle.std.specs.Prelude.{ℕ, zero, suc, ◌+◌, Bool, true, false, cond, List, [], ◌∷◌, ◌++◌, ltb, eqb, length, drop, replicate, Option}
use Rattle.std.specs.Option.{unwrap_or}
use Rattle.asking.specs.Decimal.{decimal_of}

abbrev pub is_digit : ℕ → Bool
is_digit byte = cond (ltb byte 48) false (cond (ltb 57 byte) false true)

-- the digits at the front of a text
unfoldable pub digits_in : List ℕ → List ℕ
digits_in [] = []
digits_in (byte ∷ rest) = cond (is_digit byte) (byte ∷ digits_in rest) []

abbrev pub or_once : Option ℕ → ℕ
or_once number = unwrap_or number 1

-- how often a byte stands in its run, by what follows it: as often as the digits behind a star say, else once
unfoldable pub times_in : List ℕ → ℕ
times_in [] = 1
times_in (byte ∷ rest) = cond (eqb byte 42) (or_once (decimal_of (digits_in rest))) 1

-- how many of the bytes that follow it belong to its run: the star and the digits, else none
unfoldable pub mark_size : List ℕ → ℕ
mark_size [] = 0
mark_size (byte ∷ rest) = cond (eqb byte 42) (1 + length (digits_in rest)) 0

-- a space is the byte that separates words
abbrev pub separated_by : ℕ → ℕ → ℕ
separated_by separator byte = cond (eqb byte 32) separator byte

-- so many runs at the front of a field, written out
unfoldable pub runs_out : ℕ → ℕ → List ℕ → List ℕ
runs_out zero separator field = []
runs_out (suc runs) separator [] = []
runs_out (suc runs) separator (byte ∷ rest) =
    replicate (times_in rest) (separated_by separator byte) ++ runs_out runs separator (drop (mark_size rest) rest)

-- the field with its runs written out: it has no more runs than bytes
unfoldable pub expanded : ℕ → List ℕ → List ℕ
expanded separator field = runs_out (length field) separator field
