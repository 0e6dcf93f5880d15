-- A part that was stored in the buffer, behind a window or before it: what the longer window then holds.
-- Assumes nothing.
use Prim.Native.Nat.{ℕ, ◌+◌, ◌-◌, ◌%◌, ◌≤◌}
use native.Mathlib.Omega.{arith}
use mathlib.Core.Path.{◌≡◌, sym, ap, ap₂, ◌∙◌}
use mathlib.Core.List.{List, ◌++◌}
use lib.ListN.{length, take, drop}
use lib.Seq.{take-append_seam, drop-append-add, drop-drop}
use Rattle.definition.specs.Reply.{written}
use Rattle.alleles.specs.Window.{window}
use Rattle.alleles.proofs.Laws.{window-round, window-split, window-take, window-part}

-- past what is written, the list is as it was
past-written : (part xs : List ℕ) (m : ℕ) → length part ≤ m → drop m (written part xs) ≡ drop m xs
unfolding written
past-written part xs m h =
    let e : m ≡ length part + (m - length part) = omega arith in
    ap (λ (k : ℕ). drop k (part ++ drop (length part) xs)) e
    ∙ drop-append-add part (drop (length part) xs) (m - length part)
    ∙ drop-drop (m - length part) (length part) xs
    ∙ ap (λ (k : ℕ). drop k xs) (sym e)

-- xs is the array before, ys after; the part is stored from the place at on
module _ (xs ys part : List ℕ) (at : ℕ) (room : length part ≤ 2048) (stored : window ys at 2048 ≡ written part (window xs at 2048)) where
  the-part : window ys at (length part) ≡ part
  unfolding written
  the-part = sym (window-take ys at (length part) 2048 room) ∙ ap (take (length part)) stored ∙ take-append_seam part (drop (length part) (window xs at 2048))

  the_rest : (m n : ℕ) → length part ≤ m → m + n ≤ 2048 → window ys (at + m) n ≡ window xs (at + m) n
  the_rest m n past fits =
      sym (window-part ys at m n 2048 fits)
      ∙ ap (λ (l : List ℕ). take n (drop m l)) stored
      ∙ ap (take n) (past-written part (window xs at 2048) m past)
      ∙ window-part xs at m n 2048 fits

  module _ (head count : ℕ) (fits : count + length part ≤ 2048) where
    pub behind : at ≡ head + count → window ys head (count + length part) ≡ window xs head count ++ part
    behind e =
        let m = 2048 - count in
        let round : (zs : List ℕ) → window zs head count ≡ window zs (at + m) count = λ zs. window-round zs head (at + m) count (omega arith) in
        window-split ys head count (length part)
        ∙ ap₂ ◌++◌ (round ys ∙ the_rest m count (omega arith) (omega arith) ∙ sym (round xs)) (ap (λ (k : ℕ). window ys k (length part)) (sym e) ∙ the-part)

    pub before : (at + length part) % 2048 ≡ head % 2048 → window ys at (count + length part) ≡ part ++ window xs head count
    before e =
        let turned : count + length part ≡ length part + count = omega arith in
        ap (window ys at) turned
        ∙ window-split ys at (length part) count
        ∙ ap₂ ◌++◌ the-part (the_rest (length part) count (omega arith) (omega arith) ∙ window-round xs (at + length part) head count e)
