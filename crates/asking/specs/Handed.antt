-- The request that the normalizer is handed for what words ask, once the target is read. Assumes nothing.
use Rattle.std.specs.Prelude.{ℕ, cond, List, ltb, ℤ, pos, negsuc, Option, Some, None}
use Rattle.definition.specs.Request as definition
use Rattle.normalizer.specs.Asked.{asked}
use Rattle.asking.specs.Request.{given}
use Rattle.asking.specs.declared.requests.Request.{Request}

-- a number of the range; one too large for 31 bits, which no word gives, would be refused by row 5
abbrev pub position_of : ℕ → ℤ
position_of number = cond (ltb 2147483647 number) (negsuc 0) (pos number)

-- a bound of the CDS: -1 where none is given
abbrev pub bound_number : Option ℕ → ℤ
bound_number None = negsuc 0
bound_number (Some number) = pos number

unfoldable pub handed_to : List ℕ → Request → ℕ → ℕ × ℕ → List ℕ → List ℕ → ℕ → ℕ → definition.Request
handed_to text request edit range target exons reference_room alternative_room =
    let codes = request.codes in
    asked target codes.kind exons (bound_number request.bounds.start) (bound_number request.bounds.end) (position_of range.0) (position_of range.1)
    edit (given text request.words.alternative) codes.direction codes.window reference_room alternative_room
