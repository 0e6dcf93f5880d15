-- What a table in order says of a search: its rest from any place on is in order, no exon ends past the last end, and none holds a base that lies before
-- them all. Assumes nothing.
use mathlib.Core.Path.{◌≡◌, refl, subst, ◌∙◌}
use mathlib.Core.Bool.{Bool, true, false, ◌&&◌}
use mathlib.Core.List.{List, [], ◌∷◌}
use Prim.Native.Nat.{ℕ, zero, suc, ◌≤◌, ◌<◌}
use native.Mathlib.Omega.{arith}
use borrow.Author.Tests.{leb-true, ltb-true, lt-leb, le-leb, lt-ltb, le-ltb}
use lib.Dec.{leb, ltb}
use lib.ListN.{drop}
use Rattle.definition.proofs.Tests.{and-false}
use Rattle.definition.specs.declared.Exon.{Exon}
use Rattle.definition.specs.Piece.{exons_in_order, last_end, exon_holding}
use Rattle.definition.proofs.Tests.{and-true}
use Rattle.std.specs.Prelude.{None, Some}

-- what stands in a table whose first exon starts at or after `before`
module _ (before : ℕ) (x : Exon) (xs : List Exon) (ordered : exons_in_order before (x ∷ xs) ≡ true) where
  tests : ((leb before x.start.0 && ltb x.start.0 x.end.0) ≡ true) × (exons_in_order x.end.0 xs ≡ true)
  tests = and-true (leb before x.start.0 && ltb x.start.0 x.end.0) (exons_in_order x.end.0 xs) ordered

  pub starts-after : before ≤ x.start.0
  starts-after = leb-true before x.start.0 (and-true (leb before x.start.0) (ltb x.start.0 x.end.0) tests.0).0

  pub ends-after : x.start.0 < x.end.0
  ends-after = ltb-true x.start.0 x.end.0 (and-true (leb before x.start.0) (ltb x.start.0 x.end.0) tests.0).1

  pub rest-in-order : exons_in_order x.end.0 xs ≡ true
  rest-in-order = tests.1

-- exons in order after `before` are in order after 0
in-order-from : (before : ℕ) (xs : List Exon) → exons_in_order before xs ≡ true → exons_in_order 0 xs ≡ true
in-order-from before [] o = refl
in-order-from before (x ∷ xs) o =
    rw (le-leb 0 x.start.0 (omega arith), lt-ltb x.start.0 x.end.0 (ends-after before x xs o)) (rest-in-order before x xs o)

pub in-order-drop : (i : ℕ) (xs : List Exon) → exons_in_order 0 xs ≡ true → exons_in_order 0 (drop i xs) ≡ true
in-order-drop zero xs o = o
in-order-drop (suc i) [] o = o
in-order-drop (suc i) (x ∷ xs) o = in-order-drop i xs (in-order-from x.end.0 xs (rest-in-order 0 x xs o))

-- no exon holds a base that lies before them all
none_before : (p before : ℕ) (xs : List Exon) → exons_in_order before xs ≡ true → p < before → exon_holding p xs ≡ None
none_before p before [] o h = refl
none_before p before (x ∷ xs) o h =
    let s : before ≤ x.start.0 = starts-after before x xs o in
    let e : x.start.0 < x.end.0 = ends-after before x xs o in
    rw (lt-leb x.start.0 p (omega arith)) (none_before p x.end.0 xs (rest-in-order before x xs o) (omega arith))

-- the next exon of a table, and the base that is looked for
module _ (p : ℕ) (x : Exon) (xs l : List Exon) (next : l ≡ x ∷ xs) where
  pub held-here : x.start.0 ≤ p → p < x.end.0 → Some x ≡ exon_holding p l
  held-here h k = rw (next, le-leb x.start.0 p h, lt-ltb p x.end.0 k)

  pub held_after : x.end.0 ≤ p → exon_holding p l ≡ exon_holding p xs
  held_after h = rw (next, le-ltb p x.end.0 h, and-false (leb x.start.0 p))

  pub held-nowhere : exons_in_order 0 l ≡ true → p < x.start.0 → None ≡ exon_holding p l
  held-nowhere o h =
      let w : exons_in_order 0 (x ∷ xs) ≡ true = rw next at o in
      let e : x.start.0 < x.end.0 = ends-after 0 x xs w in
      rw (next, lt-leb x.start.0 p h, none_before p x.end.0 xs (rest-in-order 0 x xs w) (omega arith))

-- an exon at place k of exons that start at or after `before` ends past it
ends-later : (before k : ℕ) (l : List Exon) (x : Exon) (xs : List Exon) → exons_in_order before l ≡ true → drop k l ≡ x ∷ xs → before < x.end.0
ends-later before zero l x xs o next =
    let w : exons_in_order before (x ∷ xs) ≡ true = rw next at o in
    omega (arith, starts-after before x xs w, ends-after before x xs w)
ends-later before (suc k) [] x xs o next =
    let z : ◌≡◌ {A = ℕ} 0 1 = cc in
    absurd (omega arith)
ends-later before (suc k) (y ∷ l) x xs o next =
    omega (arith, starts-after before y l o, ends-after before y l o, ends-later y.end.0 k l x xs (rest-in-order before y l o) next)

-- where the exon at place k ends at or before the base, so do all before it
pub held-behind : (p before k : ℕ) (l : List Exon) (x : Exon) (xs : List Exon) → exons_in_order before l ≡ true → drop k l ≡ x ∷ xs
    → x.end.0 ≤ p → exon_holding p l ≡ exon_holding p xs
held-behind p before zero l x xs o next h = held_after p x xs l next h
held-behind p before (suc k) [] x xs o next h =
    let z : ◌≡◌ {A = ℕ} 0 1 = cc in
    absurd (omega arith)
held-behind p before (suc k) (y ∷ l) x xs o next h =
    let rest = rest-in-order before y l o in
    held_after p y l (y ∷ l) refl (omega (arith, ends-later y.end.0 k l x xs rest next)) ∙ held-behind p y.end.0 k l x xs rest next h

-- the first of some exons, if there is one, ends past the base
abbrev pub EndsPast : ℕ → List Exon → Type 0
EndsPast p [] = Unit
EndsPast p (x ∷ xs) = p < x.end.0

-- no exon of a table in order ends past the last end
pub ends-within : (before : ℕ) (xs : List Exon) → exons_in_order before xs ≡ true → before ≤ last_end before xs
ends-within before [] o = omega arith
ends-within before (x ∷ xs) o =
    omega (arith, starts-after before x xs o, ends-after before x xs o, ends-within x.end.0 xs (rest-in-order before x xs o))

pub exon-within : (p before : ℕ) (xs : List Exon) → exons_in_order before xs ≡ true → (x : Exon) → exon_holding p xs ≡ Some x → x.end.0 ≤ last_end before xs
exon-within p before [] o x e =
    let z : ◌≡◌ {A = ℕ} 0 1 = cc in
    absurd (omega arith)
exon-within p before (y ∷ xs) o x e =
    go (leb y.start.0 p && ltb p y.end.0) refl (exon-within p y.end.0 xs (rest-in-order before y xs o) x)
  where
    go : (b : Bool) → (leb y.start.0 p && ltb p y.end.0) ≡ b → (exon_holding p xs ≡ Some x → x.end.0 ≤ last_end y.end.0 xs)
        → x.end.0 ≤ last_end y.end.0 xs
    go true t rest =
        let f : Some y ≡ Some x = rw t at e in
        let g : y ≡ x = cc in
        subst (λ (w : Exon). w.end.0 ≤ last_end y.end.0 xs) g (ends-within y.end.0 xs (rest-in-order before y xs o))
    go false t rest = rest (rw t at e)
