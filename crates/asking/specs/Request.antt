-- A request of which nothing is said yet, and what an option's values make of it. Assumes nothing.
use Rattle.std.specs.Prelude.{ℕ, List, [], Option, Some, None}
use Rattle.asking.specs.LinesRules.{word_at}
use Rattle.asking.specs.declared.requests.Setting.TheVariants.{Target, File, Exons, Alternative, Kind, Edit, Direction, Window, CdsStart, CdsEnd, Cds, Range}
use Rattle.asking.specs.declared.requests.Request.{Request}
use Rattle.asking.specs.declared.requests.Setting.{Setting}

-- an open target, rightward, in windows of 20
abbrev pub nothing : Request
nothing = record {
  words = record { target = None; file = None; exons = None; alternative = None };
  codes = record { kind = 0; edit = None; direction = 0; window = 20 };
  bounds = record { start = None; end = None };
  range = None;
}

-- what an option says, and everything else as it was
abbrev pub with_setting : Setting → Request → Request
with_setting (Target at) asked = record asked { words = record asked.words { target = Some at } }
with_setting (File at) asked = record asked { words = record asked.words { file = Some at } }
with_setting (Exons at) asked = record asked { words = record asked.words { exons = Some at } }
with_setting (Alternative at) asked = record asked { words = record asked.words { alternative = Some at } }
with_setting (Kind code) asked = record asked { codes = record asked.codes { kind = code } }
with_setting (Edit code) asked = record asked { codes = record asked.codes { edit = Some code } }
with_setting (Direction code) asked = record asked { codes = record asked.codes { direction = code } }
with_setting (Window size) asked = record asked { codes = record asked.codes { window = size } }
with_setting (CdsStart start) asked = record asked { bounds = record asked.bounds { start = Some start } }
with_setting (CdsEnd end) asked = record asked { bounds = record asked.bounds { end = Some end } }
with_setting (Cds start end) asked = record asked { bounds = record { start = Some start; end = Some end } }
with_setting (Range start end) asked = record asked { range = Some (start, end) }

-- the word that an option gave: empty where it was not given
unfoldable pub given : List ℕ → Option ℕ → List ℕ
given text None = []
given text (Some at) = word_at text at
