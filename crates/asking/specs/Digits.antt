-- A number as its decimal digits. Assumes nothing.
use Rattle.std.specs.Prelude.{ℕ, zero, suc, ◌+◌, ◌/◌, ◌%◌, cond, List, [], ◌∷◌, ◌++◌, ltb}

-- the decimal digits of a number that has at most so many: those of its tenth, and the last one
unfoldable pub digits_in : ℕ → ℕ → List ℕ
digits_in zero n = []
digits_in (suc most) n = cond (ltb n 10) ((48 + n) ∷ []) (digits_in most (n / 10) ++ ((48 + n % 10) ∷ []))

-- a number as a decimal: one of 64 bits has at most 20 digits
abbrev pub decimal_text : ℕ → List ℕ
decimal_text n = digits_in 20 n
