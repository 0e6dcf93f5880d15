-- A number that bytes hold, by the place of its first byte. Assumes nothing.
use Rattle.std.specs.Prelude.{List, ℕ, ◌+◌, get_or}
use Rattle.definition.specs.Piece.{little}

-- the four bytes from `at`, the least first
unfoldable pub number_at : List ℕ → ℕ → ℕ
number_at bytes at = little (get_or bytes at 0) (get_or bytes (at + 1) 0) (get_or bytes (at + 2) 0) (get_or bytes (at + 3) 0)
