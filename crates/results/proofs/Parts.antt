-- A test over a part that is lent and over a window as long. Assumes nothing.
use Prim.Native.Nat.{ℕ, ◌-◌, ◌≤◌}
use mathlib.Core.Path.{◌≡◌, ◌∙◌}
use mathlib.Core.Bool.{Bool}
use mathlib.Core.List.{List}
use lib.ListN.{length, take, drop}
use lib.Seq.{slice, length-slice}
use Rattle.definition.proofs.Parts.{lent-part}
use Rattle.alleles.specs.Window.{window}

-- what a test says of a part and of a window as long
pub part-window : (test : List ℕ → List ℕ → Bool) (l bytes : List ℕ) (head from to k : ℕ) → to ≤ length l → to - from ≡ k
    → test (take (to - from) (drop from l)) (window bytes head (length (take (to - from) (drop from l)))) ≡ test (slice from to l) (window bytes head k)
part-window test l bytes head from to k fits size =
    let long : length (slice from to l) ≡ k = length-slice from to l fits ∙ size in
    rw (lent-part from to l, long)
