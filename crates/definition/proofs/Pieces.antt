-- What is known of a piece: it holds the range that it was found for. Assumes nothing.
use mathlib.Core.Path.{◌≡◌, refl, subst}
use mathlib.Core.Bool.{Bool, true, false, ◌&&◌}
use mathlib.Core.List.{List, [], ◌∷◌}
use Prim.Native.Nat.{ℕ, ◌-◌, ◌≤◌, ◌<◌, min, max}
use native.Mathlib.Omega.{arith}
use borrow.Author.Tests.{eqb-true, leb-true, ltb-true}
use lib.Dec.{eqb, leb, ltb}
use Rattle.definition.specs.declared.Kind.{Kind}
use Rattle.definition.specs.declared.Kind.TheVariants.{Open, Transcript, Crossing}
use Rattle.definition.specs.declared.Bound.{Bound}
use Rattle.definition.specs.declared.Bound.TheVariants.{Absent, At, Negative}
use Rattle.definition.specs.declared.Refusal.{Refusal}
use Rattle.definition.specs.declared.Piece.{Piece}
use Rattle.definition.specs.declared.Exon.{Exon}
use Rattle.definition.specs.Limits.{open_end}
use Rattle.definition.specs.Piece.{piece_for, piece_from, whole_piece, pieces_of, exon_holding, cut_at, exon_piece, transcript_piece}
use Rattle.definition.proofs.Tests.{and-true}
use Rattle.std.specs.Prelude.{Err, None, Ok, Option, Result, Some}

-- a piece that holds the range
abbrev pub Holds : ℕ → ℕ → Result Piece Refusal → Type 0
Holds start end found = (p : Piece) → found ≡ Ok p → (p.left.0 ≤ start) × (end ≤ p.right.0)

holding : (p : ℕ) (xs : List Exon) (x : Exon) → exon_holding p xs ≡ Some x → (x.start.0 ≤ p) × (p < x.end.0)
holding p [] x e =
    let z : ◌≡◌ {A = ℕ} 0 1 = cc in
    absurd (omega arith)
holding p (y ∷ xs) x e = go (leb y.start.0 p && ltb p y.end.0) refl (holding p xs x)
  where
    go : (b : Bool) → (leb y.start.0 p && ltb p y.end.0) ≡ b → (exon_holding p xs ≡ Some x → (x.start.0 ≤ p) × (p < x.end.0))
        → (x.start.0 ≤ p) × (p < x.end.0)
    go true t rest =
        let f : Some y ≡ Some x = rw t at e in
        let g : y ≡ x = cc in
        let h : (leb y.start.0 p ≡ true) × (ltb p y.end.0 ≡ true) = and-true (leb y.start.0 p) (ltb p y.end.0) t in
        subst (λ (w : Exon). (w.start.0 ≤ p) × (p < w.end.0)) g (leb-true y.start.0 p h.0, ltb-true p y.end.0 h.1)
    go false t rest = rest (rw t at e)

no : {n : Refusal} {p : Piece} {X : Type 0} → Err n ≡ Ok p → X
no e =
    let z : ◌≡◌ {A = ℕ} 0 1 = cc in
    absurd (omega arith)

pub holds_of : {start end : ℕ} (w : Piece) → (w.left.0 ≤ start) × (end ≤ w.right.0) → Holds start end (Ok w)
holds_of {start} {end} w h p e =
    let f : w ≡ p = cc in
    subst (λ (x : Piece). (x.left.0 ≤ start) × (end ≤ x.right.0)) f h

exon-holds : (start end : ℕ) → start < end → (xs : List Exon) → Holds start end (exon_piece (exon_holding start xs) (exon_holding (end - 1) xs))
unfolding exon_piece
exon-holds start end o xs = go (exon_holding start xs) (exon_holding (end - 1) xs) refl refl
  where
    pair : (x y : Exon) (b : Bool) → (eqb x.start.0 y.start.0 && eqb x.end.0 y.end.0) ≡ b
        → (x.start.0 ≤ start) × (start < x.end.0) → (y.start.0 ≤ end - 1) × (end - 1 < y.end.0) → Holds start end (exon_piece (Some x) (Some y))
    pair x y true t h k =
        let u : (eqb x.start.0 y.start.0 ≡ true) × (eqb x.end.0 y.end.0 ≡ true) =
        and-true (eqb x.start.0 y.start.0) (eqb x.end.0 y.end.0) t in
        let v : x.end.0 ≡ y.end.0 = eqb-true x.end.0 y.end.0 u.1 in
        rw t (holds_of (piece_from x.start.0 x.end.0) (h.0, omega (arith, h, k, v)))
    pair x y false t h k = rw t (λ p e. no e)

    go : (a b : Option Exon) → exon_holding start xs ≡ a → exon_holding (end - 1) xs ≡ b → Holds start end (exon_piece a b)
    go None b e f = λ p h. no h
    go (Some x) None e f = λ p h. no h
    go (Some x) (Some y) e f = pair x y (eqb x.start.0 y.start.0 && eqb x.end.0 y.end.0) refl (holding start xs x e) (holding (end - 1) xs y f)

cut_holds : (bound : Bound) (start end : ℕ) (found : Result Piece Refusal) → Holds start end found → Holds start end (cut_at bound start end found)
unfolding cut_at
cut_holds Absent start end found h = h
cut_holds Negative start end found h = h
cut_holds (At c) start end (Err n) h = λ p e. no e
cut_holds (At c) start end (Ok w) h = go (leb end c) (leb c start) refl refl
  where
    go : (a b : Bool) → leb end c ≡ a → leb c start ≡ b → Holds start end (cut_at (At c) start end (Ok w))
    go true b t u = rw t (holds_of (piece_from w.left.0 (min w.right.0 c)) ((h w refl).0, omega (arith, h w refl, leb-true end c t)))
    go false true t u = rw (t, u) (holds_of (piece_from (max w.left.0 c) w.right.0) (omega (arith, h w refl, leb-true c start u), (h w refl).1))
    go false false t u = rw (t, u) (λ p e. no e)

pub transcript-holds : (exons : List Exon) (a b : Bound) (start end : ℕ) → start < end → Holds start end (transcript_piece exons a b start end)
unfolding transcript_piece
transcript-holds exons a b start end o =
    cut_holds b start end (cut_at a start end (exon_piece (exon_holding start exons) (exon_holding (end - 1) exons)))
    (cut_holds a start end (exon_piece (exon_holding start exons) (exon_holding (end - 1) exons)) (exon-holds start end o exons))

pub piece-for-holds : (kind : Kind) (bytes : List ℕ) (a b : Bound) (start end : ℕ) → start < end → end ≤ open_end
    → Holds start end (piece_for kind bytes a b start end)
unfolding piece_for whole_piece
piece-for-holds Open bytes a b start end o fits = holds_of whole_piece (omega arith)
piece-for-holds Transcript bytes a b start end o fits = transcript-holds (pieces_of bytes) a b start end o
piece-for-holds Crossing bytes a b start end o fits = holds_of whole_piece (omega arith)
