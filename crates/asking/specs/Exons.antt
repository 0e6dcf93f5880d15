-- A list of exons as a person writes it, 0-4,4-12, and the bytes of the table that it is. Assumes nothing.
use Rattle.std.specs.Prelude.{ℕ, ◌+◌, ◌%◌, ◌/◌, cond, List, [], ◌∷◌, ◌++◌, eqb, leb, length, Option, Some, None, Result, Ok, Err}
use Rattle.asking.specs.Text.{part_of, found_at, parts_at}
use Rattle.asking.specs.Decimal.{decimal_of, both_numbers}
use Rattle.asking.specs.declared.exon_lists.BadExons.{BadExons}
use Rattle.asking.specs.declared.exon_lists.BadExons.TheVariants.{BadPair, TooMany}

-- a 32-bit number as four bytes, the lowest first
unfoldable pub four_bytes : ℕ → List ℕ
four_bytes n = n % 256 ∷ n / 256 % 256 ∷ n / 65536 % 256 ∷ n / 16777216 ∷ []

-- the numbers of a pair, which stand before and behind its first dash, 45; none where it is no pair
unfoldable pub numbers_in : List ℕ → Option (ℕ × ℕ)
numbers_in pair =
    cond (eqb (found_at pair 0 45) (length pair)) None
    (both_numbers (decimal_of (part_of pair 0 (found_at pair 0 45))) (decimal_of (part_of pair (found_at pair 0 45 + 1) (length pair))))

abbrev pub eight_bytes : Option (ℕ × ℕ) → Option (List ℕ)
eight_bytes None = None
eight_bytes (Some numbers) = Some (four_bytes numbers.0 ++ four_bytes numbers.1)

-- the eight bytes of a pair; none where it is no pair
abbrev pub pair_bytes : List ℕ → Option (List ℕ)
pair_bytes pair = eight_bytes (numbers_in pair)

-- what reading pairs came to, and the bytes of those that were taken
pub record Pairs : Type 0 where
  pub came : Result ℕ BadExons
  pub bytes : List ℕ

-- what one pair comes to behind so many bytes, and what it puts there: 513 pairs leave no room for another
abbrev pub pair_came : ℕ → Option (List ℕ) → Result ℕ BadExons
pair_came size None = Err BadPair
pair_came size (Some eight) = cond (leb 4104 size) (Err TooMany) (Ok (size + length eight))

abbrev pub pair_put : ℕ → Option (List ℕ) → List ℕ
pair_put size None = []
pair_put size (Some eight) = cond (leb 4104 size) [] eight

-- reading goes on behind what a pair put, unless it was refused
abbrev pub going_on : Result ℕ BadExons → List ℕ → (List ℕ → Pairs) → Pairs
going_on (Ok size) taken onward = onward taken
going_on (Err why) taken onward = record { came = Err why; bytes = taken }

-- pairs read behind the bytes of others
unfoldable pub pairs_behind : List ℕ → List (List ℕ) → Pairs
pairs_behind taken [] = record { came = Ok (length taken); bytes = taken }
pairs_behind taken (pair ∷ pairs) =
    going_on (pair_came (length taken) (pair_bytes pair)) (taken ++ pair_put (length taken) (pair_bytes pair)) (λ more. pairs_behind more pairs)

-- the pairs of a list, between its commas, 44
abbrev pub pairs_of : List ℕ → Pairs
pairs_of list = pairs_behind [] (parts_at 44 list)
