-- The laws of a window that a part of an allele rests on, as sets that an attribute can name.
use Prim.Native.Nat.{ℕ, ◌+◌, ◌%◌, ◌≤◌}
use native.Mathlib.Omega.{arith}
use mathlib.Core.Path.{◌≡◌, sym, ◌∙◌}
use mathlib.Core.List.{List}
use lib.ListN.{take, drop}
use Rattle.alleles.specs.Window.{window}
use Rattle.alleles.proofs.Laws.{window-take, window-last, window-part, window-round}

-- bases in the middle are a window that begins further on
pub window_within : (xs : List ℕ) (h first k n : ℕ) → first + k ≤ n → window xs ((h + first) % 2048) k ≡ take k (drop first (window xs h n))
window_within xs h first k n fits = window-round xs ((h + first) % 2048) (h + first) k (omega arith) ∙ sym (window-part xs h first k n fits)

pub ruleset first_bases = (window-take)

pub ruleset last_bases = (window-last)

pub ruleset narrowed = (window_within)
