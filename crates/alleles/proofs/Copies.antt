-- A copy in two stretches, to the array's end and from its beginning on: a part is stored on the round, and a window is read off it. Assumes nothing.
use Prim.Native.Nat.{ℕ, zero, suc, ◌+◌, ◌-◌, ◌%◌, ◌<◌, ◌≤◌, min}
use native.Mathlib.Omega.{arith}
use mathlib.Core.Path.{◌≡◌, refl, sym, ap, ap₂, subst, ◌∙◌}
use mathlib.Core.Logic.{⊎_elim}
use mathlib.Core.List.{List, ◌++◌, append_assoc}
use lib.ListN.{length, length-append, length-drop, get_or, take, drop, drop_of_length-le}
use lib.Seq.{get_or-take, get_or-drop, ext_get_or, length-take-le, take_at, drop_at, drop-drop, take-append_seam}
use Rattle.std.proofs.lemmas.Bool.{cases_lt}
use Rattle.std.proofs.lemmas.List.{get_or_append_left, get_or-append_right}
use Rattle.definition.specs.Reply.{written}
use Rattle.alleles.specs.Window.{window}
use Rattle.alleles.proofs.Laws.{window-length, window-at, window-round, window-split, window-straight}

-- xs is the array before; its first stretch is the f bytes from the place s on
module _ (xs part : List ℕ) (s f r : ℕ) (long : length xs ≡ 2048) (room : length part ≤ 2048) (inside : s < 2048)
    (first : f ≡ min (length part) (2048 - s)) (rest : r ≡ length part - f) where
  abbrev mid : List ℕ
  mid = take s xs ++ (take f part ++ drop f (drop s xs))

  abbrev pub copied : List ℕ
  copied = drop f part ++ drop r mid

  front-length : length (take s xs) ≡ s
  front-length = length-take-le s xs (omega arith)

  first-length : length (take f part) ≡ f
  first-length = length-take-le f part (omega arith)

  rest-length : length (drop f part) ≡ r
  rest-length = length-drop f part ∙ sym rest

  at_rest : (j : ℕ) → j < r → get_or copied j 0 ≡ get_or part (f + j) 0
  at_rest j h = get_or_append_left (drop f part) (drop r mid) 0 j (omega (arith, rest-length)) ∙ get_or-drop f part j 0

  past_rest : (j : ℕ) → r ≤ j → get_or copied j 0 ≡ get_or mid j 0
  past_rest j h =
      get_or-append_right (drop f part) (drop r mid) r j 0 rest-length h
      ∙ get_or-drop r mid (j - r) 0
      ∙ ap (λ (k : ℕ). get_or mid k 0) (omega arith)

  at_front : (j : ℕ) → j < s → get_or mid j 0 ≡ get_or xs j 0
  at_front j h = get_or_append_left (take s xs) (take f part ++ drop f (drop s xs)) 0 j (omega (arith, front-length)) ∙ get_or-take s xs j 0 h

  at_first : (j : ℕ) → j < f → get_or mid (s + j) 0 ≡ get_or part j 0
  at_first j h =
      get_or-append_right (take s xs) (take f part ++ drop f (drop s xs)) s (s + j) 0 front-length (omega arith)
      ∙ ap (λ (k : ℕ). get_or (take f part ++ drop f (drop s xs)) k 0) (omega arith)
      ∙ get_or_append_left (take f part) (drop f (drop s xs)) 0 j (omega (arith, first-length))
      ∙ get_or-take f part j 0 h

  past_first : (j : ℕ) → s + f ≤ j → get_or mid j 0 ≡ get_or xs j 0
  past_first j h =
      get_or-append_right (take s xs) (take f part ++ drop f (drop s xs)) s j 0 front-length (omega arith)
      ∙ get_or-append_right (take f part) (drop f (drop s xs)) f (j - s) 0 first-length (omega arith)
      ∙ get_or-drop f (drop s xs) (j - s - f) 0
      ∙ get_or-drop s xs (f + (j - s - f)) 0
      ∙ ap (λ (k : ℕ). get_or xs k 0) (omega arith)

  module _ (at : ℕ) (start : s ≡ at % 2048) where
    -- the place i further on the round, before the array's end and behind it
    at_part : (i : ℕ) → i < length part → get_or copied ((at + i) % 2048) 0 ≡ get_or part i 0
    at_part i h =
        ⊎_elim
        (λ l. ap (λ (k : ℕ). get_or copied k 0) (omega arith) ∙ past_rest (s + i) (omega arith) ∙ at_first i l)
        (λ l. ap (λ (k : ℕ). get_or copied k 0) (omega arith) ∙ at_rest (i - f) (omega arith) ∙ ap (λ (k : ℕ). get_or part k 0) (omega arith))
        (cases_lt i f)

    past_part : (i : ℕ) → length part ≤ i → i < 2048 → get_or copied ((at + i) % 2048) 0 ≡ get_or xs ((at + i) % 2048) 0
    past_part i past h =
        past_rest ((at + i) % 2048) (omega arith)
        ∙ ⊎_elim (λ l. at_front ((at + i) % 2048) l) (λ l. past_first ((at + i) % 2048) (omega arith)) (cases_lt ((at + i) % 2048) s)

    pub copied-written : window copied at 2048 ≡ written part (window xs at 2048)
    unfolding written
    copied-written =
        let w = window xs at 2048 in
        let size : length w ≡ 2048 = window-length xs at 2048 in
        let size' : length (window copied at 2048) ≡ 2048 = window-length copied at 2048 in
        ext_get_or 0 (window copied at 2048) (part ++ drop (length part) w)
        (size' ∙ sym (length-append part (drop (length part) w) ∙ omega (arith, length-drop (length part) w)))
        (λ i h.
        window-at copied at 2048 i (omega arith)
        ∙ ⊎_elim
        (λ l. at_part i l ∙ sym (get_or_append_left part (drop (length part) w) 0 i l))
        (λ l.
        past_part i l (omega arith)
        ∙ sym (
        get_or-append_right part (drop (length part) w) (length part) i 0 (ap (λ (k : ℕ). k) (omega arith)) l
        ∙ get_or-drop (length part) w (i - length part) 0
        ∙ ap (λ (k : ℕ). get_or w k 0) (omega arith)
        ∙ window-at xs at 2048 i (omega arith)
        ))
        (cases_lt i (length part)))

-- a part that does not reach the array's end is there after the first copy
pub copied-once : (xs part : List ℕ) (s f at : ℕ) → length xs ≡ 2048 → length part ≤ 2048 → s ≡ at % 2048
    → f ≡ min (length part) (2048 - s) → length part ≤ f
    → window (take s xs ++ (take f part ++ drop f (drop s xs))) at 2048 ≡ written part (window xs at 2048)
copied-once xs part s f at long room start first whole =
    subst (λ (l : List ℕ). window (l ++ (take s xs ++ (take f part ++ drop f (drop s xs)))) at 2048 ≡ written part (window xs at 2048))
    (drop_of_length-le part whole)
    (copied-written xs part s f 0 long room (omega arith) first (omega arith) at start)

-- a part at the array's beginning is the window there
pub filled-window : (xs part : List ℕ) → length xs ≡ 2048 → length part ≤ 2048 → window (part ++ drop (length part) xs) 0 (length part) ≡ part
filled-window xs part long room =
    window-straight (part ++ drop (length part) xs) 0 (length part)
    (length-append part (drop (length part) xs) ∙ omega (arith, length-drop (length part) xs)) (omega arith)
    ∙ take-append_seam part (drop (length part) xs)

-- xs is the array, out what is written to: f bytes of the window stand up to the array's end, r from its beginning on
module _ (xs out : List ℕ) (h c f r : ℕ) (long : length xs ≡ 2048) (start : h < 2048) (fits : c ≤ 2048)
    (first : f ≡ min c (2048 - h)) (rest : r ≡ c - f) where
  to-end : length (take f (drop h xs)) ≡ f
  to-end = length-take-le f (drop h xs) (omega (arith, length-drop h xs))

  from_start : (n : ℕ) → n ≡ r → window xs (h + f) n ≡ take n xs
  unfolding window
  from_start zero e = refl
  from_start (suc n) e = window-round xs (h + f) 0 (suc n) (omega arith) ∙ window-straight xs 0 (suc n) long (omega arith)

  window-read : take f (take f (drop h xs) ++ drop f out) ++ (take r xs ++ drop r (drop f (take f (drop h xs) ++ drop f out)))
      ≡ written (window xs h c) out
  unfolding written
  window-read =
      let size : c ≡ f + r = omega arith in
      let past : drop r (drop f (take f (drop h xs) ++ drop f out)) ≡ drop (length (window xs h c)) out =
      ap (drop r) (drop_at (take f (drop h xs)) (drop f out) f to-end)
      ∙ drop-drop r f out
      ∙ ap (λ (n : ℕ). drop n out) (sym size ∙ sym (window-length xs h c))
      in let whole : window xs h c ≡ take f (drop h xs) ++ take r xs =
      ap (window xs h) size
      ∙ window-split xs h f r
      ∙ ap₂ ◌++◌ (window-straight xs h f long (omega arith)) (from_start r refl)
      in ap₂ ◌++◌ (take_at (take f (drop h xs)) (drop f out) f to-end) (ap (λ (l : List ℕ). take r xs ++ l) past)
      ∙ sym (append_assoc (take f (drop h xs)) (take r xs) (drop (length (window xs h c)) out))
      ∙ ap (λ (l : List ℕ). l ++ drop (length (window xs h c)) out) (sym whole)

  -- the same, of n bytes that are lent, as many
  pub window-lent : (n : ℕ) → n ≡ f → take f (take n (drop h xs) ++ drop f out) ++ (take r xs ++ drop r (drop f (take n (drop h xs) ++ drop f out)))
      ≡ written (window xs h c) out
  window-lent n e = rw e window-read

  -- and a window that does not go round is read off by one copy
  pub window-read-once : c ≤ f → take f (drop h xs) ++ drop f out ≡ written (window xs h c) out
  unfolding written
  window-read-once whole =
      let size : f ≡ c = omega arith in
      ap₂ ◌++◌ (ap (λ (n : ℕ). take n (drop h xs)) size ∙ sym (window-straight xs h c long (omega arith)))
      (ap (λ (n : ℕ). drop n out) (size ∙ sym (window-length xs h c)))
