-- What a trim keeps of an allele, from what is kept of its front or its back.
-- Assumes nothing.
use Prim.Native.Nat.{ℕ, ◌+◌, ◌-◌, ◌%◌, ◌≤◌}
use native.Mathlib.Omega.{arith}
use mathlib.Core.Path.{◌≡◌}
use lib.ListN.{length, take, drop}
use Rattle.alleles.specs.declared.Allele.{Allele}
use Rattle.alleles.specs.Held.{held, Holds}
use Rattle.definition.proofs.Prefixes.{lcp-le-left, lcp-le-right, lcs-le-left, lcs-le-right}
use Rattle.alleles.proofs.Laws.{window-length}

module _ (a kept : Allele) (n : ℕ) where
  -- all but the first n are the last count - n
  pub but_first : n ≤ a.count
      → Holds kept ((a.head + (a.count - (a.count - n))) % 2048) (a.count - n) (drop (a.count - (a.count - n)) (held a))
      → Holds kept ((a.head + n) % 2048) (a.count - n) (drop n (held a))
  but_first within h =
      let same : a.count - (a.count - n) ≡ n = omega arith in
      rw same at h

  -- all but the last n are the first length - n
  pub but_last : Holds kept a.head (a.count - n) (take (a.count - n) (held a))
      → Holds kept a.head (a.count - n) (take (length (held a) - n) (held a))
  but_last h = rw (window-length a.bytes a.head a.count) h

-- what a trim of the front rests on, and what one of the back does
pub ruleset fronts = (lcp-le-left, lcp-le-right, window-length, but_first)

pub ruleset backs = (lcs-le-left, lcs-le-right, window-length, but_last)
