-- The order of a table's exons, tested one after another. Assumes nothing.
use mathlib.Core.Path.{◌≡◌}
use mathlib.Core.Bool.{false}
use mathlib.Core.List.{List, ◌∷◌}
use Prim.Native.Nat.{ℕ, ◌≤◌, ◌<◌}
use borrow.Author.Tests.{lt-leb, le-leb, lt-ltb, le-ltb}
use Rattle.definition.specs.declared.Exon.{Exon}
use Rattle.definition.specs.Piece.{exons_fit}

-- the tests at the next exon of a table, which stand for the whole rest
module _ (size before : ℕ) (x : Exon) (xs l : List Exon) (next : l ≡ x ∷ xs) where
  pub starts-early : x.start.0 < before → false ≡ exons_fit size before l
  starts-early h = rw (next, lt-leb before x.start.0 h)

  pub ends-early : before ≤ x.start.0 → x.end.0 ≤ x.start.0 → false ≡ exons_fit size before l
  ends-early h k = rw (next, le-leb before x.start.0 h, le-ltb x.start.0 x.end.0 k)

  pub goes_on : before ≤ x.start.0 → x.start.0 < x.end.0 → exons_fit size before l ≡ exons_fit size x.end.0 xs
  goes_on h k = rw (next, le-leb before x.start.0 h, lt-ltb x.start.0 x.end.0 k)
