-- Whether every byte is a base, gathered from the front: `all` is what the first i bytes say. Assumes nothing.
use Prim.Native.Nat.{ℕ, ◌+◌, ◌≤◌, ◌<◌}
use native.Mathlib.Numerals.{add-one}
use mathlib.Core.Path.{◌≡◌}
use mathlib.Core.Bool.{Bool, ◌&&◌}
use mathlib.Core.List.{List}
use lib.ListN.{length, drop, get_or, drop_of_length-le}
use lib.Seq.{drop-cons}
use Rattle.definition.specs.Bases.{is_base, all_bases}
use Rattle.sequences.proofs.Gathered.{gathered_next, gathered-all}

module _ (s : List ℕ) (i : ℕ) (all : Bool) (decides : (all && all_bases (drop i s)) ≡ all_bases s) where
  pub bases-next : (here : Bool) → i < length s → here ≡ is_base (get_or s i 0) → ((all && here) && all_bases (drop (i + 1) s)) ≡ all_bases s
  bases-next here h e = gathered_next (λ (k : ℕ). all_bases (drop k s)) i all decides here (rw (drop-cons s i 0 h, add-one i, e))

  pub bases-all : length s ≤ i → all ≡ all_bases s
  bases-all h = gathered-all (λ (k : ℕ). all_bases (drop k s)) i all decides (rw (drop_of_length-le s h))
