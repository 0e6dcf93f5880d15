-- Where a byte is found at or after an index, and the part up to it, by the bytes from that index on. Assumes nothing.
use Prim.Native.Nat.{ℕ, suc, ◌+◌, ◌-◌, ◌≤◌}
use native.Mathlib.Omega.{arith}
use mathlib.Core.Path.{◌≡◌, refl, sym, ◌∙◌}
use mathlib.Core.Bool.{Bool, true, false, cond, not}
use mathlib.Core.List.{List, [], ◌∷◌}
use Rattle.std.specs.Prelude.{Option, Some, None}
use Rattle.std.specs.List.{position, position_or_len}
use borrow.Author.Tests.{le-ltb, ltb-false}
use Rattle.std.proofs.lemmas.List.Sums.{prefix_len-le-length}
use lib.Dec.{eqb, ltb}
use lib.ListN.{length, take, drop, length-drop}
use Rattle.asking.specs.Text.{part_of, found_at, index_of}

-- std's first place is the definition's
index-position : (byte : ℕ) (list : List ℕ) → index_of byte list ≡ position_or_len (λ here. eqb here byte) list
unfolding index_of
index-position byte [] = refl
index-position byte (x ∷ xs) = go (eqb x byte) (index-position byte xs)
  where
    go : (b : Bool) → index_of byte xs ≡ position_or_len (λ here. eqb here byte) xs
        → cond b 0 (suc (index_of byte xs)) ≡ cond (not b) (1 + position_or_len (λ here. eqb here byte) xs) 0
    go true same = refl
    go false same = omega arith

some-position : (test : ℕ → Bool) (list : List ℕ) (at : ℕ) → Some at ≡ position test list → at ≡ position_or_len test list
some-position test list at e = go (ltb (position_or_len test list) (length list)) e
  where
    go : (b : Bool) → Some at ≡ cond b (Some (position_or_len test list)) None → at ≡ position_or_len test list
    go true f = cc
    go false f =
        let z : ◌≡◌ {A = ℕ} 0 1 = cc in
        absurd (omega arith)

no-position : (test : ℕ → Bool) (list : List ℕ) → None ≡ position test list → position_or_len test list ≡ length list
no-position test list e = go (ltb (position_or_len test list) (length list)) refl e
  where
    go : (b : Bool) → ltb (position_or_len test list) (length list) ≡ b → None ≡ cond b (Some (position_or_len test list)) None
        → position_or_len test list ≡ length list
    go true t f =
        let z : ◌≡◌ {A = ℕ} 0 1 = cc in
        absurd (omega arith)
    go false t f = omega (arith, ltb-false _ _ t, prefix_len-le-length (λ x. not (test x)) list)

module _ (text : List ℕ) (from byte : ℕ) (within : from ≤ length text) {found : Option ℕ}
    (is : found ≡ position (λ here. eqb here byte) (drop from text)) where
  pub here : (at : ℕ) → found ≡ Some at → from + at ≡ found_at text from byte
  here at e =
      let first : at ≡ index_of byte (drop from text) =
      some-position (λ x. eqb x byte) (drop from text) at (sym e ∙ is) ∙ sym (index-position byte (drop from text)) in
      rw (le-ltb _ _ within, first)

  pub nowhere : found ≡ None → length text ≡ found_at text from byte
  nowhere e =
      let size : length (drop from text) ≡ length text - from = length-drop from text in
      let all : index_of byte (drop from text) ≡ length (drop from text) =
      index-position byte (drop from text) ∙ no-position (λ x. eqb x byte) (drop from text) (sym e ∙ is) in
      rw (le-ltb _ _ within, all, size) (omega arith)

module _ (byte : ℕ) (list : List ℕ) {from end : ℕ} (h : from ≤ length list) (is-end : end ≡ found_at list from byte) where
  pub ends_at : end ≡ from + index_of byte (drop from list)
  ends_at = is-end ∙ rw (le-ltb _ _ h)

  pub part-is : end ≤ length list → part_of list from end ≡ take (index_of byte (drop from list)) (drop from list)
  part-is within =
      let size : end - from ≡ index_of byte (drop from list) = omega (arith, ends_at) in
      let after : from ≤ end = omega (arith, ends_at) in
      rw (le-ltb end from after, le-ltb (length list) end within, size)
