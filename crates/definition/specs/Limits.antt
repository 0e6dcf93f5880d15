-- The limits (docs/RULES.md), each number once. A name unfolds everywhere, so that a contract says the name and arithmetic sees the number.
-- Assumes nothing.
use Rattle.std.specs.Prelude.{ℕ}

-- row 2: the bases of a window
abbrev pub longest_window : ℕ
longest_window = 1024

-- row 3: the bases of a target
abbrev pub longest_target : ℕ
longest_target = 65535

-- row 7: the bases of a range, and of an alternative that is read
abbrev pub longest_allele : ℕ
longest_allele = 1024

-- row 9: the bytes of an answer buffer, which holds an allele and one base more
abbrev pub answer_room : ℕ
answer_room = 1025

-- row 10: the exons of a table
abbrev pub most_exons : ℕ
most_exons = 512

-- the right end of a piece that no exon ends
abbrev pub open_end : ℕ
open_end = 2147483647
