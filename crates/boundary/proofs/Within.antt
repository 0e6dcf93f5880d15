-- What a caller may rely on: a table that passes row 10 is in order, as the search asks; and on a transcript the piece that is found ends at or before
-- the target's end, so that row 16 is not given there. That it holds the range is `transcript-holds` of the definition. Assumes nothing.
use mathlib.Core.Path.{◌≡◌, refl, subst}
use mathlib.Core.Bool.{Bool, true, false, ◌&&◌}
use mathlib.Core.List.{List}
use Prim.Native.Nat.{ℕ, ◌-◌, ◌≤◌, min, max}
use native.Mathlib.Omega.{arith}
use borrow.Author.Tests.{eqb-true, le-ltb}
use lib.Dec.{eqb, leb}
use lib.ListN.{length}
use Rattle.definition.specs.declared.Kind.TheVariants.{Transcript}
use Rattle.definition.specs.declared.Direction.{Direction}
use Rattle.definition.specs.declared.Direction.TheVariants.{Rightward, Leftward}
use Rattle.definition.specs.declared.Bound.{Bound}
use Rattle.definition.specs.declared.Bound.TheVariants.{Absent, At, Negative}
use Rattle.definition.specs.declared.Refusal.{Refusal}
use Rattle.definition.specs.declared.Exon.{Exon}
use Rattle.definition.specs.declared.Piece.{Piece}
use Rattle.definition.specs.Piece.{exons_in, exons_in_order, last_end, exons_fit, tables_hold, pieces_of, piece_from}
use Rattle.definition.specs.Piece.{exon_holding, exon_piece, cut_at, transcript_piece, piece_for}
use Rattle.definition.specs.Answer.{leaves_target}
use Rattle.tables.proofs.Order.{exon-within}
use Rattle.definition.proofs.Tests.{and-true, and-false}
use Rattle.std.specs.Prelude.{Err, None, Ok, Option, Result, Some}

-- the exons of a table that passes row 10 stand in order up to the target's end
module _ (bytes : List ℕ) (cds_start cds_end : Bound) (size : ℕ) (holds : tables_hold bytes cds_start cds_end size ≡ true) where
  exons-fit : exons_fit size 0 (exons_in bytes) ≡ true
  unfolding tables_hold
  exons-fit = go (exons_fit size 0 (exons_in bytes)) refl
    where
      go : (t : Bool) → exons_fit size 0 (exons_in bytes) ≡ t → t ≡ true
      go true e = refl
      go false e = rw (e, and-false) at holds

  pub table-in-order : exons_in_order 0 (exons_in bytes) ≡ true
  table-in-order = (and-true (exons_in_order 0 (exons_in bytes)) _ exons-fit).0

  pub last-end-within : last_end 0 (exons_in bytes) ≤ size
  last-end-within = omega (arith, eqb-true (last_end 0 (exons_in bytes)) size (and-true (exons_in_order 0 (exons_in bytes)) _ exons-fit).1)

-- a piece that ends at or before `size`
abbrev pub Within : ℕ → Result Piece Refusal → Type 0
Within size found = (p : Piece) → found ≡ Ok p → p.right.0 ≤ size

none_within : (size : ℕ) (n : Refusal) → Within size (Err n)
none_within size n p e =
    let z : ◌≡◌ {A = ℕ} 0 1 = cc in
    absurd (omega arith)

one-within : (size : ℕ) (w : Piece) → w.right.0 ≤ size → Within size (Ok w)
one-within size w h p e =
    let f : w ≡ p = cc in
    subst (λ (x : Piece). x.right.0 ≤ size) f h

exons-within : (size : ℕ) (a b : Option Exon) → ((x : Exon) → a ≡ Some x → x.end.0 ≤ size) → Within size (exon_piece a b)
unfolding exon_piece
exons-within size None b h = none_within size _
exons-within size (Some x) None h = none_within size _
exons-within size (Some x) (Some y) h = go (eqb x.start.0 y.start.0 && eqb x.end.0 y.end.0) refl
  where
    go : (t : Bool) → (eqb x.start.0 y.start.0 && eqb x.end.0 y.end.0) ≡ t → Within size (exon_piece (Some x) (Some y))
    go true t = rw t (one-within size (piece_from x.start.0 x.end.0) (h x refl))
    go false t = rw t (none_within size _)

cut-within : (size : ℕ) (bound : Bound) (start end : ℕ) (found : Result Piece Refusal) → Within size found → Within size (cut_at bound start end found)
unfolding cut_at
cut-within size Absent start end found h = h
cut-within size Negative start end found h = h
cut-within size (At c) start end (Err n) h = none_within size n
cut-within size (At c) start end (Ok w) h = go (leb end c) (leb c start) refl refl
  where
    go : (a b : Bool) → leb end c ≡ a → leb c start ≡ b → Within size (cut_at (At c) start end (Ok w))
    go true b t u = rw t (one-within size (piece_from w.left.0 (min w.right.0 c)) (omega (arith, h w refl)))
    go false true t u = rw (t, u) (one-within size (piece_from (max w.left.0 c) w.right.0) (h w refl))
    go false false t u = rw (t, u) (none_within size _)

module _ (bytes : List ℕ) (cds_start cds_end : Bound) (size : ℕ) (holds : tables_hold bytes cds_start cds_end size ≡ true) (start end : ℕ) where
  pub transcript-within : Within size (transcript_piece (exons_in bytes) cds_start cds_end start end)
  unfolding transcript_piece
  transcript-within =
      let x = exon_holding start (exons_in bytes) in
      let y = exon_holding (end - 1) (exons_in bytes) in
      let ordered = table-in-order bytes cds_start cds_end size holds in
      cut-within size cds_end start end _
      (cut-within size cds_start start end (exon_piece x y)
      (exons-within size x y (λ z e. omega (arith, exon-within start 0 (exons_in bytes) ordered z e, last-end-within bytes cds_start cds_end size holds))))

  pub piece-for-within : Within size (piece_for Transcript bytes cds_start cds_end start end)
  unfolding piece_for pieces_of
  piece-for-within = transcript-within

-- row 16 is not given where the piece ends at or before the target's end
pub row-16-not-given : (direction : Direction) (p : Piece) (target : List ℕ) (q : ℕ) (ref alt : List ℕ) → p.right.0 ≤ length target
    → leaves_target direction p target q ref alt ≡ false
unfolding leaves_target
row-16-not-given Rightward p target q ref alt h = refl
row-16-not-given Leftward p target q ref alt h = rw (le-ltb (length target) p.right.0 h, and-false)
