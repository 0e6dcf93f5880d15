-- A base written beside a window: behind it, or before it. Assumes nothing.
use Prim.Native.Nat.{ℕ, suc, ◌-◌, ◌≤◌, ◌<◌}
use native.Mathlib.Omega.{arith}
use mathlib.Core.Path.{◌≡◌, refl, ap, ◌∙◌}
use mathlib.Core.List.{List, [], ◌∷◌, ◌++◌, append_assoc, append-nil}
use lib.ListN.{length, take, drop, get_or, set, length-append, drop_of_length-le}
use lib.Seq.{drop-cons, set_at, take-length, drop-length}
use Rattle.definition.specs.Reply.{written}
use Rattle.alleles.proofs.Laws.{window-length}

pub first-base : (target : List ℕ) → 1 ≤ length target → take 1 target ≡ get_or target 0 0 ∷ []
first-base [] h = absurd (omega arith)
first-base (x ∷ xs) h = refl

pub last-base : (target : List ℕ) → 1 ≤ length target → drop (length target - 1) target ≡ get_or target (length target - 1) 0 ∷ []
last-base target h =
    drop-cons target (length target - 1) 0 (omega arith)
    ∙ ap (λ (l : List ℕ). get_or target (length target - 1) 0 ∷ l) (drop_of_length-le target {i = suc (length target - 1)} (omega arith))

pub base-behind : (w old new : List ℕ) (n b : ℕ) → length w ≡ n → n < length old → new ≡ written w old → set new n b ≡ written (w ++ (b ∷ [])) old
unfolding written
base-behind w old new n b size room e =
    let more : length (w ++ (b ∷ [])) ≡ suc n = rw length-append (omega arith) in
    rw (e, size, more, append_assoc, drop-cons old n 0 room) (set_at w (get_or old n 0) (drop (suc n) old) b n size)

pub base-before : (w old part : List ℕ) (b : ℕ) → 1 ≤ length old → part ≡ written w (take (length old - 1) (drop 1 old))
    → set (take 1 old ++ (part ++ drop (length old - 1) (drop 1 old))) 0 b ≡ written ((b ∷ []) ++ w) old
unfolding written
base-before w [] part b h e = absurd (omega arith)
base-before w (x ∷ xs) part b h e =
    let less : suc (length xs) - 1 ≡ length xs = omega arith in
    let is : part ≡ w ++ drop (length w) xs = rw (less, take-length) at e in
    rw (less, drop-length, append-nil, is)

-- what is written with each anchor
pub ruleset anchors = (first-base, last-base, base-behind, base-before, window-length, length-append)
