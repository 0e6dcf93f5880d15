-- Words and lines of a text. Assumes nothing.
use Rattle.std.specs.Prelude.{ℕ, zero, suc, ◌≡◌, cond, List, [], ◌∷◌, eqb}
use Rattle.asking.specs.Text.{part_of, found_at}

-- the word that begins at an index, up to the byte 0 that ends it
abbrev pub word_at : List ℕ → ℕ → List ℕ
word_at text from = part_of text from (found_at text from 0)

-- the line of a number, which counts from 0, without its line end, 10: empty where the text has no such line
unfoldable pub line_of : ℕ → List ℕ → List ℕ
line_of number [] = []
line_of zero (byte ∷ text) = cond (eqb byte 10) [] (byte ∷ line_of zero text)
line_of (suc number) (byte ∷ text) = line_of (cond (eqb byte 10) number (suc number)) text

-- what `line` ensures of the line that it gives back: a record, so that the text can be read off it where the lines of a literal are compared
pub record Line (text : List ℕ) (number : ℕ) (line : List ℕ) : Type 0 where
  pub is : line ≡ line_of number text
