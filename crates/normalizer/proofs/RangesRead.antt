-- Row 5 is read off the two ends of the range. Assumes nothing.
use mathlib.Core.Path.{◌≡◌, refl}
use mathlib.Core.Bool.{Bool, true, false}
use Prim.Native.Nat.{ℕ, zero-le}
use borrow.Author.Tests.{le-ltb}
use lib.Dec.{leb, ltb}
use lib.IntN.{ℤ, pos, negsuc}
use Rattle.std.proofs.lemmas.Int.{to_z-of_z}
use Rattle.definition.specs.Request.{coordinate_of}
use Rattle.normalizer.specs.Range.{range_of, range_read}

not-below : (a : ℕ) → ltb a 0 ≡ false
not-below a = le-ltb a 0 zero-le

pub range_read_off : (start end : ℤ) (size : ℕ) → range_of (coordinate_of start) (coordinate_of end) size ≡ range_read start end size
unfolding coordinate_of range_read
range_read_off (pos a) (pos b) size = go (leb b a) refl
  where
    go : (c : Bool) → leb b a ≡ c → range_of (coordinate_of (pos a)) (coordinate_of (pos b)) size ≡ range_read (pos a) (pos b) size
    go true e = rw (not-below a, e)
    go false e = rw (not-below a, e)
range_read_off (pos a) (negsuc b) size = rw (not-below a)
range_read_off (negsuc a) (pos b) size = refl
range_read_off (negsuc a) (negsuc b) size = refl

-- a signed number is read back, and row 5 off the two ends
pub ruleset read_off = (to_z-of_z, range_read_off)
