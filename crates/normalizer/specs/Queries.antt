-- What a query says in the words of the definition, and what its rows have shown of it. Assumes nothing.
use Rattle.std.specs.Prelude.{◌≤◌, ◌<◌, length, Option, Result}
use Rattle.definition.specs.declared.Piece.{Piece}
use Rattle.definition.specs.declared.Refusal.{Refusal}
use Rattle.definition.specs.Answer.{Named}
use Rattle.definition.specs.Change.{Change, spelled}
use Rattle.definition.specs.Limits.{longest_window, longest_target}
use Rattle.definition.specs.Piece.{piece_for}
use Rattle.definition.specs.Verdict.{shortcut}
use Rattle.normalizer.specs.declared.queries.Query.{Query}
use Rattle.normalizer.specs.Passed.{Passed}
use Rattle.normalizer.specs.SpellingAsked.{Ranged, Read}

-- the change that it spells, the piece of its range, and its answer at once
abbrev pub spelled_by : Query → Change
spelled_by q = spelled q.edit q.target.now q.range.start.0 q.range.end.0 q.alternative.now

abbrev pub piece_by : Query → Result Piece Refusal
piece_by q = piece_for q.kind q.exons.now q.cds.start q.cds.end q.range.start.0 q.range.end.0

abbrev pub shortcut_by : Query → Option Named
shortcut_by q = shortcut q.edit q.target.now q.range.start.0 q.range.end.0 q.alternative.now

-- past row 5, with a window that passed row 2 and a target that passed row 3
pub record InTarget (q : Query) : Type 0 where
  pub ordered : q.range.start.0 < q.range.end.0
  pub in_target : q.range.end.0 ≤ length q.target.now
  pub short : length q.target.now ≤ longest_target
  pub some : 1 ≤ q.window
  pub most : q.window ≤ longest_window

-- past row 10
abbrev pub HasPassed : Query → Type 0
HasPassed q = Passed q.target.now q.kind q.exons.now q.range.start.0 q.range.end.0 q.edit q.alternative.now q.window

-- in a piece that holds its range, and with an alternative that passed rows 6 and 7
abbrev pub InPiece : Query → Piece → Type 0
InPiece q piece = Ranged piece q.target.now q.range.start.0 q.range.end.0 q.window

abbrev pub Reads : Query → Type 0
Reads q = Read q.edit q.range.start.0 q.range.end.0 q.alternative.now
