-- The line is one of what the text has from an index on, by what is left of its number.
use Rattle.std.proofs.Common.{◌-◌, ◌≡◌, ◌≤◌, length, drop}
use Rattle.asking.specs.LinesRules.{line_of}
use Rattle.asking.proofs.lines.line.Given as goal

abbrev pub invariant-loop-line : goal.invariant-loop-line
invariant-loop-line l =
    (l.from ≤ length l.text) × (line_of l.number l.text ≡ line_of (l.number - l._line) (drop l.from l.text))
