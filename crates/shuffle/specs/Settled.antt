-- What the move of a change is asked, and what it gives back: the definition's place, probes and alleles, in both directions. Assumes nothing.
use Rattle.std.specs.Prelude.{◌≡◌, List, ℕ, ◌-◌, ◌≤◌, length}
use Rattle.definition.specs.declared.Direction.{Direction}
use Rattle.definition.specs.declared.Piece.{Piece}
use Rattle.definition.specs.Change.{Change, altered, trimmed, trimmed_front, trimmed_end}
use Rattle.definition.specs.Place.{right_edge, place_of, probes_of}
use Rattle.alleles.specs.declared.Allele.{Allele}
use Rattle.shuffle.specs.declared.Spelled.{Spelled}
use Rattle.shuffle.specs.declared.moves.Shared.{Shared}
use Rattle.shuffle.specs.declared.slides.Shuffled.{Shuffled}
use Rattle.shuffle.specs.Slides.{Sizes, Part}

-- the change that is spelled
abbrev pub change : Spelled → Change
change s = record { from = s.from.0; to = s.to.0; inserted = s.inserted.now }

-- a change as it is spelled, inside piece and target
pub record Asked (piece : Piece) (target : List ℕ) (c : Change) (most : ℕ) : Type 0 where
  pub sizes : Sizes (c.to - c.from) (length c.inserted) most
  pub order : c.from ≤ c.to
  pub left : piece.left.0 ≤ c.from
  pub right : c.to ≤ right_edge piece target

-- what two alleles share, as the definition trims them in that direction
pub record Shares (direction : Direction) (reference alternative : List ℕ) (s : Shared) : Type 0 where
  pub front : s.front ≡ trimmed_front direction reference alternative
  pub back : s.back ≡ trimmed_end direction reference alternative

-- its final place, its probes and its alleles there, in two buffers, are the definition's
pub record Settled (direction : Direction) (piece : Piece) (target : List ℕ) (c : Change) (r a : Allele) (s : Shuffled) : Type 0 where
  pub place : s.place.0 ≡ place_of direction piece target (altered target c) (trimmed direction target c)
  pub probes : s.probes ≡ probes_of direction piece target (trimmed direction target c) s.place.0
  pub reference : Part r s.place.0 (trimmed direction target c).reference_size target
  pub alternative : Part a s.place.0 (trimmed direction target c).alternative_size (altered target c)
