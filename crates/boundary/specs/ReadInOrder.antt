-- The table in order, if it is read: those of open targets and crossing transcripts are not. Assumes nothing.
use Rattle.std.specs.Prelude.{◌≡◌, true, List, ℕ}
use Rattle.definition.specs.declared.Kind.{Kind}
use Rattle.definition.specs.declared.Kind.TheVariants.{Open, Transcript, Crossing}
use Rattle.definition.specs.Piece.{exons_in, exons_in_order}

abbrev pub ReadInOrder : Kind → List ℕ → Type 0
ReadInOrder Open bytes = Unit
ReadInOrder Transcript bytes = exons_in_order 0 (exons_in bytes) ≡ true
ReadInOrder Crossing bytes = Unit
