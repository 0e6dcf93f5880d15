-- What windows in a row are asked, and what they give back: the furthest place, the pairs compared and the alleles there, in both directions.
-- Assumes nothing.
use Rattle.std.specs.Prelude.{◌≡◌, cond, List, ℕ, ◌+◌, ◌-◌, ◌^◌, ◌<◌, ◌≤◌, min}
use Rattle.std.proofs.Math.Seq.{slice}
use Rattle.definition.specs.declared.Direction.{Direction}
use Rattle.definition.specs.declared.Direction.TheVariants.{Rightward, Leftward}
use Rattle.definition.specs.declared.Piece.{Piece}
use Rattle.definition.specs.Limits.{longest_window, longest_allele}
use Rattle.definition.specs.Change.{splice}
use Rattle.definition.specs.Place.{right_edge, furthest, stopped_by_base}
use Rattle.alleles.specs.declared.Allele.{Allele}
use Rattle.alleles.specs.Held.{held, Good}
use Rattle.shuffle.specs.declared.slides.Shuffled.{Shuffled}

-- the longest allele and the longest window: both together fill the rotating buffer
pub record Sizes (k m most : ℕ) : Type 0 where
  pub reference : k ≤ longest_allele
  pub alternative : m ≤ longest_allele
  pub window : 1 ≤ most
  pub longest : most ≤ longest_window

-- how far a change may go that way: to the end of the piece, and rightward of the target
abbrev pub edge : Direction → Piece → List ℕ → ℕ
edge Rightward piece target = right_edge piece target
edge Leftward piece target = piece.left.0

-- where a change is that moved n places that way
abbrev pub moved : Direction → ℕ → ℕ → ℕ
moved Rightward place n = place + n
moved Leftward place n = place - n

-- and that it can move so many
abbrev pub Movable : Direction → ℕ → ℕ → Type 0
Movable Rightward place n = place + n < 2 ^ 64
Movable Leftward place n = n ≤ place

-- a trimmed change with an allele empty, at a place inside piece and target
pub record Poised (piece : Piece) (target : List ℕ) (start : ℕ) (r a : Allele) (most : ℕ) : Type 0 where
  pub sizes : Sizes r.count a.count most
  pub reference : Good r
  pub alternative : Good a
  pub pure : min r.count a.count ≡ 0
  pub left : piece.left.0 ≤ start
  pub right : start + r.count ≤ right_edge piece target
  pub bases : held r ≡ slice start (start + r.count) target

-- an allele of so many bases of a sequence from a place on
pub record Part (allele : Allele) (place size : ℕ) (sequence : List ℕ) : Type 0 where
  pub good : Good allele
  pub count : allele.count ≡ size
  pub bases : held allele ≡ slice place (place + size) sequence

-- it is moved to the furthest place, the pairs that were compared are counted, and both buffers hold its alleles there
pub record Slid (direction : Direction) (piece : Piece) (target : List ℕ) (start : ℕ) (r a r' a' : Allele) (s : Shuffled) : Type 0 where
  pub place : s.place.0 ≡ furthest direction piece target (splice target start (start + r.count) (held a)) r.count
  pub probes : s.probes ≡ (s.place.0 - start) + (start - s.place.0) + cond (stopped_by_base direction piece target r.count s.place.0) 1 0
  pub reference : Part r' s.place.0 r.count target
  pub alternative : Part a' s.place.0 a.count (splice target start (start + r.count) (held a))
