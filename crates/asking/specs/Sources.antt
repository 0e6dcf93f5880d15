-- The text that a target's letters are read from, and what reading them comes to. Assumes nothing.
use Rattle.std.specs.Prelude.{ℕ, List, [], Option, Some, None, Result, Ok, Err}
use denote.Ref.{Bor}
use Rattle.asking.specs.LinesRules.{word_at}
use Rattle.asking.specs.Letters.{record_of, letters_of, letters_read, letters_laid}
use Rattle.asking.specs.declared.problems.Unread.{Unread}
use Rattle.asking.specs.declared.problems.Unread.TheVariants.{Missing, Twice}

-- a text, or why there is none
abbrev pub Source : Type 0
Source = Result (List ℕ) Unread

-- a file whose bytes are lent, or why it isn't read
abbrev pub bytes_of : Result (Bor (List ℕ)) Unread → Source
bytes_of (Ok bytes) = Ok bytes.now
bytes_of (Err why) = Err why

-- two words, of which one is given: the letters themselves, or the path of a file
unfoldable pub source_of : List ℕ → Option ℕ → Option ℕ → Source → Source
source_of text None None file = Err Missing
source_of text (Some at) None file = Ok (word_at text at)
source_of text None (Some path) file = file
source_of text (Some at) (Some path) file = Err Twice

-- what reading it into a target with so much room comes to
unfoldable pub target_of : ℕ → Source → Result ℕ Unread
target_of room (Ok text) = letters_read room text
target_of room (Err why) = Err why

-- the target then
unfoldable pub laid : Source → List ℕ → List ℕ
laid (Ok text) target = letters_laid (record_of text) target
laid (Err why) target = target

-- the letters that stand at its front
unfoldable pub letters_in : Source → List ℕ
letters_in (Ok text) = letters_of (record_of text)
letters_in (Err why) = []
