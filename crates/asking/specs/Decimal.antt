-- The number that a word of decimal digits is. Assumes nothing.
use Rattle.std.specs.Prelude.{ℕ, ◌+◌, ◌*◌, ◌-◌, Bool, true, false, List, [], ◌∷◌, ltb, Option, Some, None}

abbrev pub none_if : Bool → Option ℕ → Option ℕ
none_if true n = None
none_if false n = n

-- a number with one digit more: none where the byte is no digit, or the number is above 2,147,483,647
abbrev pub appended_to : ℕ → ℕ → Option ℕ
appended_to value byte =
    none_if (ltb byte 48) (none_if (ltb 57 byte) (none_if (ltb 2147483647 (value * 10 + (byte - 48))) (Some (value * 10 + (byte - 48)))))

-- the same, once a byte before it left none
abbrev pub more : Option ℕ → ℕ → Option ℕ
more None byte = None
more (Some value) byte = appended_to value byte

-- a number with the digits of a word after it
abbrev pub read_on : Option ℕ → List ℕ → Option ℕ
read_on number [] = number
read_on number (byte ∷ word) = read_on (more number byte) word

-- the number that a word is: none where it is empty
abbrev pub decimal_of : List ℕ → Option ℕ
decimal_of [] = None
decimal_of (byte ∷ word) = read_on (Some 0) (byte ∷ word)

-- two numbers, if both are
abbrev pub both_numbers : Option ℕ → Option ℕ → Option (ℕ × ℕ)
both_numbers (Some start) (Some end) = Some (start, end)
both_numbers (Some start) None = None
both_numbers None end = None
