-- A line of a text: the first is the part up to a line end, and the others are those of the text behind it. Assumes nothing.
use Prim.Native.Nat.{ℕ, zero, suc, ◌+◌, ◌-◌, ◌≤◌, ◌<◌, min}
use native.Mathlib.Omega.{arith}
use mathlib.Core.Path.{◌≡◌, refl, sym, ap, ◌∙◌}
use mathlib.Core.Bool.{Bool, true, false}
use mathlib.Core.List.{List, [], ◌∷◌}
use lib.Dec.{eqb}
use lib.ListN.{length, take, drop, length-drop}
use lib.Seq.{drop-drop}
use Rattle.asking.specs.Text.{part_of, found_at, after_found, index_of}
use Rattle.asking.proofs.Found.{ends_at, part-is}
use Rattle.asking.specs.LinesRules.{line_of}

first-line : (text : List ℕ) → line_of zero text ≡ take (index_of 10 text) text
unfolding line_of index_of
first-line [] = refl
first-line (byte ∷ text) = go (eqb byte 10) refl (first-line text)
  where
    go : (b : Bool) → eqb byte 10 ≡ b → line_of zero text ≡ take (index_of 10 text) text
        → line_of zero (byte ∷ text) ≡ take (index_of 10 (byte ∷ text)) (byte ∷ text)
    go true t rest = rw t
    go false t rest = rw t (ap {B = List ℕ} (λ r. byte ∷ r) rest)

-- how many bytes there are up to the first line end, with it
behind_first : List ℕ → ℕ
behind_first text = min (index_of 10 text + 1) (length text)

later-line : (n : ℕ) (text : List ℕ) → line_of (suc n) text ≡ line_of n (drop (behind_first text) text)
unfolding line_of index_of behind_first
later-line n [] = refl
later-line n (byte ∷ text) = go (eqb byte 10) refl (later-line n text)
  where
    go : (b : Bool) → eqb byte 10 ≡ b → line_of (suc n) text ≡ line_of n (drop (behind_first text) text)
        → line_of (suc n) (byte ∷ text) ≡ line_of n (drop (behind_first (byte ∷ text)) (byte ∷ text))
    go true t rest =
        let one : min (zero + 1) (suc (length text)) ≡ suc zero = omega arith in
        rw (t, one)
    go false t rest =
        let more : min (suc (index_of 10 text) + 1) (suc (length text)) ≡ suc (min (index_of 10 text + 1) (length text)) = omega arith in
        rw (t, more) rest

pub start : (text : List ℕ) (number : ℕ) → line_of number text ≡ line_of (number - 0) text
start text number =
    let all : number ≡ number - 0 = omega arith in
    ap (λ (n : ℕ). line_of n text) all

-- the line of a number is, after so many line ends, one of what is left of the text
module _ (text : List ℕ) (number i from : ℕ) (held : line_of number text ≡ line_of (number - i) (drop from text)) (h : from ≤ length text) where
  pub next : (behind : ℕ) → i < number → behind ≡ after_found text from 10 → line_of number text ≡ line_of (number - (i + 1)) (drop behind text)
  unfolding behind_first
  next behind more is-behind =
      let left : number - i ≡ suc (number - (i + 1)) = omega arith in
      let found : found_at text from 10 ≡ from + index_of 10 (drop from text) = ends_at 10 text h refl in
      let size : length (drop from text) ≡ length text - from = length-drop from text in
      let there : from + behind_first (drop from text) ≡ behind = omega (arith, found, size, is-behind) in
      held
      ∙ ap (λ (n : ℕ). line_of n (drop from text)) left
      ∙ later-line (number - (i + 1)) (drop from text)
      ∙ ap (line_of (number - (i + 1))) (drop-drop (behind_first (drop from text)) from text ∙ ap (λ (k : ℕ). drop k text) there)

  pub done : (end : ℕ) → number ≤ i → end ≡ found_at text from 10 → end ≤ length text → part_of text from end ≡ line_of number text
  done end none is-end within =
      let left : number - i ≡ zero = omega arith in
      part-is 10 text h is-end within
      ∙ sym (first-line (drop from text))
      ∙ sym (ap (λ (n : ℕ). line_of n (drop from text)) left)
      ∙ sym held
