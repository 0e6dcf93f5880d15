-- A list laid down byte by byte over another: the step and the end of a loop that writes an allele out. Assumes nothing.
use Prim.Native.Nat.{ℕ, suc, ◌+◌, ◌<◌, ◌≤◌}
use native.Mathlib.Omega.{arith}
use native.Mathlib.Numerals.{add-one}
use mathlib.Core.Path.{◌≡◌}
use mathlib.Core.List.{List, ◌++◌, append_assoc}
use lib.ListN.{length, take, drop, get_or, set}
use lib.Seq.{set_at, take-suc, drop-cons, length-take-le, take-length}
use Rattle.definition.specs.Reply.{written}

-- the first i bytes of a list are laid over the old ones
abbrev pub Laid : List ℕ → List ℕ → List ℕ → ℕ → Type 0
Laid xs old new i = new ≡ take i xs ++ drop i old

pub laid_more : (xs old new : List ℕ) (i b : ℕ) → i < length xs → length xs ≤ length old → Laid xs old new i → b ≡ get_or xs i 0
    → Laid xs old (set new i b) (i + 1)
laid_more xs old new i b h room e is =
    let long : length (take i xs) ≡ i = length-take-le i xs (omega arith) in
    rw (e, is, add-one i, take-suc xs i 0 h, append_assoc, drop-cons old i 0 (omega arith))
    (set_at (take i xs) (get_or old i 0) (drop (suc i) old) (get_or xs i 0) i long)

pub laid_done : (xs old new : List ℕ) (i : ℕ) → i ≡ length xs → Laid xs old new i → new ≡ written xs old
unfolding written
laid_done xs old new i e h = rw (e, take-length) at h
