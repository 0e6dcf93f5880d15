-- The document's own words for the move: one base at a time while the altered sequence stays the same. A step is possible exactly if one pair
-- of bases is equal, and a place with no further step is the furthest. These are what a loop's proof asks for. Assumes nothing.
use mathlib.Core.Path.{◌≡◌, sym, ap, ap₂, ◌∙◌}
use mathlib.Core.Logic.{◌↔◌, ◌⊎◌, inl, inr}
use mathlib.Core.List.{List, [], ◌∷◌, ◌++◌, head-eq_of_cons-eq}
use Prim.Native.Nat.{ℕ, suc, ◌+◌, ◌-◌, ◌≤◌, ◌<◌, min, max}
use native.Mathlib.Nat.{le_refl}
use native.Mathlib.Omega.{arith}
use lib.ListN.{length, drop, get_or}
use lib.Seq.{take-suc, drop-cons, get_or-take}
use Rattle.definition.specs.declared.Direction.TheVariants.{Rightward, Leftward}
use Rattle.definition.specs.declared.Piece.{Piece}
use Rattle.definition.specs.Prefix.{lcp, lcs}
use Rattle.definition.specs.Place.{Equivalent, Inside, right_edge, furthest}
use Rattle.definition.proofs.Prefixes.{lcp-take, lcp-max, lcs-drop, lcs-max, lcp-le-left, lcp-le-right}
use Rattle.definition.proofs.Places.{equivalent→interval, interval→equivalent, to-edge}

module _ (xs ys : List ℕ) (n : ℕ) where
  pub lcp-next : n ≤ lcp xs ys → n < length xs → n < length ys → get_or xs n 0 ≡ get_or ys n 0 → suc n ≤ lcp xs ys
  lcp-next h i j e =
      lcp-max (suc n) xs ys i j
      (take-suc xs n 0 i ∙ ap₂ (λ (t : List ℕ) (b : ℕ). t ++ (b ∷ [])) (lcp-take n xs ys h) e ∙ sym (take-suc ys n 0 j))

  pub lcp-same : suc n ≤ lcp xs ys → get_or xs n 0 ≡ get_or ys n 0
  lcp-same h =
      sym (get_or-take (suc n) xs n 0 (le_refl (suc n))) ∙ ap (λ (t : List ℕ). get_or t n 0) (lcp-take (suc n) xs ys h) ∙ get_or-take (suc n) ys n 0 (le_refl (suc n))

  -- from the end: the base before the last n
  module _ (i : n < length xs) (j : n < length ys) where
    cons-at : (zs : List ℕ) → n < length zs → drop (length zs - suc n) zs ≡ get_or zs (length zs - suc n) 0 ∷ drop (length zs - n) zs
    cons-at zs h =
        let e : suc (length zs - suc n) ≡ length zs - n = omega arith in
        drop-cons zs (length zs - suc n) 0 (omega arith) ∙ ap (λ (m : ℕ). get_or zs (length zs - suc n) 0 ∷ drop m zs) e

    pub lcs-next : n ≤ lcs xs ys → get_or xs (length xs - suc n) 0 ≡ get_or ys (length ys - suc n) 0 → suc n ≤ lcs xs ys
    lcs-next h e = lcs-max (suc n) xs ys i j (cons-at xs i ∙ ap₂ ◌∷◌ e (lcs-drop n xs ys h) ∙ sym (cons-at ys j))

    pub lcs-same : suc n ≤ lcs xs ys → get_or xs (length xs - suc n) 0 ≡ get_or ys (length ys - suc n) 0
    lcs-same h = head-eq_of_cons-eq (sym (cons-at xs i) ∙ lcs-drop (suc n) xs ys h ∙ cons-at ys j)

module _ (target after : List ℕ) (q : ℕ) (here : Equivalent target after (length target - length after) q) where
  -- one base to the right
  pub step_right : q < length target → q < length after
      → (get_or target q 0 ≡ get_or after q 0) ↔ Equivalent target after (length target - length after) (suc q)
  step_right i j =
      let b : (q ≤ lcp target after) × (min (length target) (length after) - q ≤ lcs target after) = equivalent→interval target after q here in (
        (λ e. interval→equivalent target after (suc q) (lcp-next target after q b.0 i j e) (omega (arith, b))),
        (λ e. lcp-same target after q (equivalent→interval target after (suc q) e).0),
      )

-- one base to the left: the bases before the two rests
module _ (target after : List ℕ) (q : ℕ) (here : Equivalent target after (length target - length after) (suc q)) where
  left-numbers : (n n' p s : ℕ) → suc q ≤ p → p ≤ n → p ≤ n' → min n n' - suc q ≤ s
      → (suc (min n n' - suc q) ≡ min n n' - q) × (n - suc (min n n' - suc q) ≡ q + (n - n')) × (n' - suc (min n n' - suc q) ≡ q + (n' - n))
      × (min n n' - suc q < n) × (min n n' - suc q < n')
  left-numbers n n' p s h i j k = (omega arith, omega arith, omega arith, omega arith, omega arith)

  pub step_left : (get_or target (q + (length target - length after)) 0 ≡ get_or after (q + (length after - length target)) 0)
      ↔ Equivalent target after (length target - length after) q
  step_left =
      let b : (suc q ≤ lcp target after) × (min (length target) (length after) - suc q ≤ lcs target after) = equivalent→interval target after (suc q) here in
      let m = left-numbers (length target) (length after) (lcp target after) (lcs target after) b.0 (lcp-le-left target after) (lcp-le-right target after) b.1 in
      let n : ℕ = min (length target) (length after) - suc q in (
        (λ e. interval→equivalent target after q (omega (arith, b.0)) (rw m.0 at (lcs-next target after n m.3 m.4 b.1 (rw (m.1, m.2) e)))),
        (λ e. rw (m.1, m.2) at (lcs-same target after n m.3 m.4 (rw m.0 (equivalent→interval target after q e).1))),
      )

-- a place at the edge, or one whose next pair of bases differs, is the furthest
module _ (piece : Piece) (target after : List ℕ) (q : ℕ)
    (here : Equivalent target after (length target - length after) q) (inside : Inside piece target (length target - length after) q) where
  pub stop-right : (q + (length target - length after) ≡ right_edge piece target) ⊎ (get_or target q 0 ≡ get_or after q 0 → ⊥)
      → q ≡ furthest Rightward piece target after (length target - length after)
  unfolding furthest
  stop-right (inl e) = omega (arith, equivalent→interval target after q here)
  stop-right (inr d) = right_end (lcp target after) (right_edge piece target) (length target - length after) q
      (equivalent→interval target after q here).0 (to-edge inside) (λ h. d (lcp-same target after q h))
    where
      right_end : (p e k q : ℕ) → q ≤ p → q + k ≤ e → (suc q ≤ p → ⊥) → q ≡ min p (e - k)
      right_end p e k q h i j = omega arith

left_end : (s n l q : ℕ) → n - suc q ≤ s → l ≤ suc q → suc q ≤ n → (n - q ≤ s → ⊥) → suc q ≡ max (n - s) l
left_end s n l q h i k j = omega arith

pub stop-left-edge : (piece : Piece) (target after : List ℕ) (q : ℕ) → Equivalent target after (length target - length after) q → q ≡ piece.left.0
    → q ≡ furthest Leftward piece target after (length target - length after)
unfolding furthest
stop-left-edge piece target after q here e =
    edge (lcs target after) (min (length target) (length after)) piece.left.0 q (equivalent→interval target after q here).1 e
  where
    edge : (s n l q : ℕ) → n - q ≤ s → q ≡ l → q ≡ max (n - s) l
    edge s n l q h e = omega arith

pub stop-left-base : (piece : Piece) (target after : List ℕ) (q : ℕ)
    → Equivalent target after (length target - length after) (suc q) → Inside piece target (length target - length after) (suc q)
    → (get_or target (q + (length target - length after)) 0 ≡ get_or after (q + (length after - length target)) 0 → ⊥)
    → suc q ≡ furthest Leftward piece target after (length target - length after)
unfolding furthest
stop-left-base piece target after q here inside d =
    let b : (suc q ≤ lcp target after) × (min (length target) (length after) - suc q ≤ lcs target after) = equivalent→interval target after (suc q) here in
    left_end (lcs target after) (min (length target) (length after)) piece.left.0 q b.1 inside.at_left
    (omega (arith, b.0, lcp-le-left target after, lcp-le-right target after))
    (λ h. d ((step_left target after q here).1 (interval→equivalent target after q (omega (arith, b.0)) h)))

-- a shared prefix that cannot grow is the longest
pub lcp-stop : (xs ys : List ℕ) (n : ℕ) → n ≤ lcp xs ys → (get_or xs n 0 ≡ get_or ys n 0 → ⊥) → n ≡ lcp xs ys
lcp-stop xs ys n h d = end (lcp xs ys) h (λ i. d (lcp-same xs ys n i))
  where
    end : (p : ℕ) → n ≤ p → (suc n ≤ p → ⊥) → n ≡ p
    end p h j = omega arith
