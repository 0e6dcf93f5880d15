-- What one window of a move does to two alleles, with a chunk that is handed in and with the part of the target beside the change, in both directions.
-- Assumes nothing.
use Rattle.std.specs.Prelude.{ℕ, ◌+◌, ◌-◌, ◌%◌, ◌≤◌, min, ◌≡◌, List, ◌++◌, length, take, drop}
use Rattle.std.proofs.Math.Seq.{slice}
use Rattle.definition.specs.declared.Direction.{Direction}
use Rattle.definition.specs.declared.Direction.TheVariants.{Rightward, Leftward}
use Rattle.definition.specs.Prefix.{lcp, lcs}
use Rattle.shuffle.specs.declared.windows.Stepped.{Stepped}
use Rattle.alleles.specs.declared.Allele.{Allele}
use Rattle.alleles.specs.Held.{held}

-- the chunk goes behind both alleles, the n bases of the front that they then share come off, and so does what is left of the chunk
pub record WindowedRight (r a chunk r' a' : List ℕ) (n : ℕ) : Type 0 where
  pub count : n ≡ lcp (r ++ chunk) (a ++ chunk)
  pub within : n ≤ length chunk
  pub reference : r' ≡ take (length r) (drop n (r ++ chunk))
  pub alternative : a' ≡ take (length a) (drop n (a ++ chunk))

-- the chunk goes before both alleles, the n bases of the back that they then share come off, and so does what is left of the chunk
pub record WindowedLeft (r a chunk r' a' : List ℕ) (n : ℕ) : Type 0 where
  pub count : n ≡ lcs (chunk ++ r) (chunk ++ a)
  pub within : n ≤ length chunk
  pub reference : r' ≡ drop (length chunk - n) (take (length chunk + length r - n) (chunk ++ r))
  pub alternative : a' ≡ drop (length chunk - n) (take (length chunk + length a - n) (chunk ++ a))

abbrev pub Windowed : Direction → List ℕ → List ℕ → List ℕ → List ℕ → List ℕ → ℕ → Type 0
Windowed Rightward r a chunk r' a' n = WindowedRight r a chunk r' a' n
Windowed Leftward r a chunk r' a' n = WindowedLeft r a chunk r' a' n

-- where a window of the buffer begins that moved n places that way
abbrev pub turned : Direction → ℕ → ℕ → ℕ
turned Rightward head n = (head + n) % 2048
turned Leftward head n = (head + 2048 - n) % 2048

-- an allele of as many bases, n places on that way
pub record Turned (direction : Direction) (x x' : Allele) (n : ℕ) : Type 0 where
  pub head : x'.head ≡ turned direction x.head n
  pub count : x'.count ≡ x.count

-- both alleles with the chunk gone through, where they then lie in their buffers
pub record WindowMoved (direction : Direction) (r a : Allele) (chunk : List ℕ) (r' a' : Allele) (n : ℕ) : Type 0 where
  pub windowed : Windowed direction (held r) (held a) chunk (held r') (held a') n
  pub reference : Turned direction r r' n
  pub alternative : Turned direction a a' n

-- a change of k reference bases at a place lies inside the target, on this side of the edge that way
abbrev pub Before : Direction → List ℕ → ℕ → ℕ → ℕ → Type 0
Before Rightward target place k edge = (place + k ≤ edge) × (edge ≤ length target)
Before Leftward target place k edge = (edge ≤ place) × (place ≤ length target)

-- how many bases stand between that change and the edge
abbrev pub room : Direction → ℕ → ℕ → ℕ → ℕ
room Rightward place k edge = edge - (place + k)
room Leftward place k edge = place - edge

-- the bases beside that change, so many
abbrev pub beside : Direction → List ℕ → ℕ → ℕ → ℕ → List ℕ
beside Rightward target place k size = slice (place + k) (place + k + size) target
beside Leftward target place k size = slice (place - size) place target

-- the bases of a window: those beside the change up to the edge, at most so many
pub record Taken (direction : Direction) (target : List ℕ) (place k edge most : ℕ) (chunk : List ℕ) : Type 0 where
  pub size : length chunk ≡ min most (room direction place k edge)
  pub bases : chunk ≡ beside direction target place k (length chunk)

-- one window of those bases
pub record SteppedOn (direction : Direction) (target : List ℕ) (place edge most : ℕ) (r a r' a' : Allele) (s : Stepped) : Type 0 where
  pub size : s.size ≡ min most (room direction place r.count edge)
  pub within : s.moved ≤ s.size
  pub windowed : Windowed direction (held r) (held a) (beside direction target place r.count s.size) (held r') (held a') s.moved
  pub reference : Turned direction r r' s.moved
  pub alternative : Turned direction a a' s.moved
