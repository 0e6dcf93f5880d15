-- What is read round an array of 2,048 bytes from a place on, its window. Assumes nothing.
use Rattle.std.specs.Prelude.{ℕ, zero, suc, ◌+◌, ◌-◌, ◌%◌, ◌<◌, ◌≤◌, ◌≡◌, List, [], ◌∷◌, ◌++◌, length, get_or}

-- count bytes from the place head on; after the last place comes the first
unfoldable pub window : List ℕ → ℕ → ℕ → List ℕ
window bytes head zero = []
window bytes head (suc count) = get_or bytes (head % 2048) 0 ∷ window bytes (suc head) count

-- a window begins at a place of the buffer and goes round it at most once
pub record Placed (place size : ℕ) : Type 0 where
  pub start : place < 2048
  pub fits : size ≤ 2048

-- a part stored before a window: the place where the longer window begins, and what it holds
pub record StoredFront (bytes bytes' part : List ℕ) (head count first : ℕ) : Type 0 where
  pub place : first ≡ (head + 2048 - length part) % 2048
  pub front : window bytes' first (count + length part) ≡ part ++ window bytes head count
