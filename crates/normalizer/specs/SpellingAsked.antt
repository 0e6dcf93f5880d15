-- What the caller shows of a range in its piece, and of an alternative. Assumes nothing.
use Rattle.std.specs.Prelude.{◌≡◌, false, List, ℕ, ◌-◌, ◌≤◌, ◌<◌, length}
use Rattle.definition.specs.declared.Edit.{Edit}
use Rattle.definition.specs.declared.Piece.{Piece}
use Rattle.definition.specs.Limits.{longest_window, longest_target, longest_allele}
use Rattle.definition.specs.Verdict.{misfits, read_alternative}

-- a range that passes rows 5 and 7, in a piece that holds it, and a window that passes row 2
pub record Ranged (piece : Piece) (target : List ℕ) (start end window : ℕ) : Type 0 where
  pub ordered : start < end
  pub in_target : end ≤ length target
  pub short : length target ≤ longest_target
  pub range : end - start ≤ longest_allele
  pub left : piece.left.0 ≤ start
  pub right : end ≤ piece.right.0
  pub some : 1 ≤ window
  pub most : window ≤ longest_window

-- an alternative that passes rows 6 and 7
pub record Read (edit : Edit) (start end : ℕ) (alternative : List ℕ) : Type 0 where
  pub fits : misfits edit start end alternative ≡ false
  pub size : length (read_alternative edit alternative) ≤ longest_allele
