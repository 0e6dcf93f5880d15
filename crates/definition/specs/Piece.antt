-- The exon table, its rules, and the piece inside which a change may move: rows 10 and 12 to 15. Assumes nothing.
use Rattle.std.specs.Prelude.{ℕ, ◌+◌, ◌*◌, ◌-◌, min, max, Bool, true, false, cond, ◌&&◌, List, [], ◌∷◌, eqb, leb, ltb, length}
use Rattle.definition.specs.declared.Kind.{Kind}
use Rattle.definition.specs.declared.Kind.TheVariants.{Open, Transcript, Crossing}
use Rattle.definition.specs.declared.Bound.{Bound}
use Rattle.definition.specs.declared.Bound.TheVariants.{Absent, At, Negative}
use Rattle.definition.specs.declared.Refusal.TheVariants.{ExonNotFoundForStart, ExonNotFoundForEnd, ExonIntronBoundary, UtrExonBoundary}
use Rattle.definition.specs.declared.Piece.{Piece}
use Rattle.definition.specs.declared.Exon.{Exon}
use Rattle.definition.specs.Limits.{most_exons, open_end}
use Rattle.definition.specs.declared.Refusal.{Refusal}
use Rattle.std.specs.Prelude.{Err, None, Ok, Option, Result, Some}

abbrev pub exon_from : ℕ → ℕ → Exon
exon_from s e = record { start = record { 0 = s }; end = record { 0 = e } }

-- four bytes, the least first
unfoldable pub little : ℕ → ℕ → ℕ → ℕ → ℕ
little a b c d = a + 256 * b + 65536 * c + 16777216 * d

-- the pairs that a table's bytes hold, eight bytes a pair; bytes at the end that make no whole pair give none
abbrev pub exons_in : List ℕ → List Exon
exons_in (a ∷ b ∷ c ∷ d ∷ e ∷ f ∷ g ∷ h ∷ rest) = exon_from (little a b c d) (little e f g h) ∷ exons_in rest
exons_in [] = []
exons_in (a ∷ []) = []
exons_in (a ∷ b ∷ []) = []
exons_in (a ∷ b ∷ c ∷ []) = []
exons_in (a ∷ b ∷ c ∷ d ∷ []) = []
exons_in (a ∷ b ∷ c ∷ d ∷ e ∷ []) = []
exons_in (a ∷ b ∷ c ∷ d ∷ e ∷ f ∷ []) = []
exons_in (a ∷ b ∷ c ∷ d ∷ e ∷ f ∷ g ∷ []) = []

-- each start below its end and at or after the end before it
abbrev pub exons_in_order : ℕ → List Exon → Bool
exons_in_order before [] = true
exons_in_order before (x ∷ xs) = leb before x.start.0 && ltb x.start.0 x.end.0 && exons_in_order x.end.0 xs

-- the end of the last exon
abbrev pub last_end : ℕ → List Exon → ℕ
last_end before [] = before
last_end before (x ∷ xs) = last_end x.end.0 xs

-- in order, and the last end at the target's end
abbrev pub exons_fit : ℕ → ℕ → List Exon → Bool
exons_fit size before exons = exons_in_order before exons && eqb (last_end before exons) size

unfoldable pub bound_in_target : ℕ → Bound → Bool
bound_in_target size Absent = true
bound_in_target size (At c) = leb c size
bound_in_target size Negative = false

unfoldable pub bounds_in_order : Bound → Bound → Bool
bounds_in_order (At s) (At e) = leb s e
bounds_in_order (At s) Absent = true
bounds_in_order (At s) Negative = true
bounds_in_order Absent e = true
bounds_in_order Negative e = true

-- row 10's rules, over the table's bytes, the CDS bounds and the target's size
unfoldable pub tables_hold : List ℕ → Bound → Bound → ℕ → Bool
tables_hold bytes cds_start cds_end size =
    let exons = exons_in bytes in
    eqb (length bytes) (8 * length exons)
    && leb 1 (length exons)
    && leb (length exons) most_exons
    && exons_fit size 0 exons
    && bound_in_target size cds_start
    && bound_in_target size cds_end
    && bounds_in_order cds_start cds_end

-- the stretches of a transcript inside which a change may move: its exons
unfoldable pub pieces_of : List ℕ → List Exon
pieces_of bytes = exons_in bytes

-- where a change may move: from gap l up to gap r
abbrev pub piece_from : ℕ → ℕ → Piece
piece_from l r = record { left = record { 0 = l }; right = record { 0 = r } }

-- open targets and crossing transcripts
unfoldable pub whole_piece : Piece
whole_piece = piece_from 0 open_end

-- the exon that holds base p. An exon has start < end <= exon end exactly if it holds base end - 1
abbrev pub exon_holding : ℕ → List Exon → Option Exon
exon_holding p [] = None
exon_holding p (x ∷ xs) = cond (leb x.start.0 p && ltb p x.end.0) (Some x) (exon_holding p xs)

-- the side of a CDS bound on which the range lies; row 15 where it has bases on both
unfoldable pub cut_at : Bound → ℕ → ℕ → Result Piece Refusal → Result Piece Refusal
cut_at Absent start end found = found
cut_at Negative start end found = found
cut_at (At c) start end (Err x) = Err x
cut_at (At c) start end (Ok p) =
    cond (leb end c) (Ok (piece_from p.left.0 (min p.right.0 c)))
    (cond (leb c start) (Ok (piece_from (max p.left.0 c) p.right.0))
    (Err UtrExonBoundary))

-- rows 12 to 14
unfoldable pub exon_piece : Option Exon → Option Exon → Result Piece Refusal
exon_piece None last = Err ExonNotFoundForStart
exon_piece (Some x) None = Err ExonNotFoundForEnd
exon_piece (Some x) (Some y) =
    cond (eqb x.start.0 y.start.0 && eqb x.end.0 y.end.0) (Ok (piece_from x.start.0 x.end.0)) (Err ExonIntronBoundary)

-- rows 12 to 15, in order: the exon, cut on the range's side of CDS start, then of CDS end
unfoldable pub transcript_piece : List Exon → Bound → Bound → ℕ → ℕ → Result Piece Refusal
transcript_piece exons cds_start cds_end start end =
    cut_at cds_end start end
    (cut_at cds_start start end
    (exon_piece (exon_holding start exons) (exon_holding (end - 1) exons)))

-- the piece of a range: open targets and crossing transcripts do not read the tables
unfoldable pub piece_for : Kind → List ℕ → Bound → Bound → ℕ → ℕ → Result Piece Refusal
piece_for Open bytes cds_start cds_end start end = Ok whole_piece
piece_for Transcript bytes cds_start cds_end start end = transcript_piece (pieces_of bytes) cds_start cds_end start end
piece_for Crossing bytes cds_start cds_end start end = Ok whole_piece
