-- Demand 1 is met: the refusal of a verdict is that of the first row of the table that is given. Assumes nothing.
use lib.Seq.{slice}
use Rattle.definition.specs.declared.Kind.{Kind}
use Rattle.definition.specs.declared.Kind.TheVariants.{Open, Transcript, Crossing}
use Rattle.definition.specs.declared.Direction.{Direction}
use Rattle.definition.specs.declared.Bound.{Bound}
use Rattle.definition.specs.declared.Bound.TheVariants.{Absent, At, Negative}
use Rattle.definition.specs.declared.Refusal.{Refusal}
use Rattle.definition.specs.declared.Refusal.TheVariants.{ExonNotFoundForStart, ExonNotFoundForEnd, ExonIntronBoundary}
use Rattle.definition.specs.declared.Refusal.TheVariants.{UtrExonBoundary, VariantSpanOutsideSequenceBounds}
use Rattle.definition.specs.declared.Piece.{Piece}
use Rattle.definition.specs.Place.{place_of}
use Rattle.definition.specs.Reply.{reply}
use native.Mathlib.Omega.{arith}
use Rattle.definition.specs.Change.{altered, Trimmed, trimmed}
use mathlib.Core.Path.{◌≡◌, refl, ap, ◌∙◌, sym, ap₂}
use mathlib.Core.Bool.{Bool, true, false, false≢true, cond, ◌&&◌, ◌||◌}
use mathlib.Core.List.{List, [], ◌∷◌, ◌++◌}
use Rattle.std.specs.Prelude.{Option, None, Some}
use Prim.Native.Nat.{ℕ, ◌-◌, ◌+◌}
use borrow.Author.Tests.{leb-true, leb-false, lt-ltb, le-ltb}
use lib.Dec.{eqb, leb, ltb}
use Rattle.definition.specs.Request.{Request, direction_of, kind_of, bound_of, start_of, end_of, edit_of, change_of}
use Rattle.definition.specs.Piece.{pieces_of, exon_holding, exon_piece, cut_at, transcript_piece, piece_for}
use Rattle.definition.specs.Answer.{Named, leaves_target}
use Rattle.definition.specs.Verdict.{Verdict, refused, answered, Row, first_given, verdict, refused_or, answer_in, after_shortcuts, after_piece, moved_in}
use Rattle.definition.specs.Verdict.{normal, normal_at, named_at, piece_of, answered_or16, Answer, answered_at_once, rows, answer_moved}
use Rattle.definition.proofs.Tests.{and-false}
use Rattle.demands.specs.Demand1.{missing, differ, on_both_sides, piece_rows, span_rows, unless_at_once, table, none_given, FirstSaid, Demand1}
use Rattle.definition.specs.declared.Exon.{Exon}
use Rattle.std.specs.Prelude.{Err, None, Ok, Option, Result, Some}

-- the first of two that is there
abbrev or_else : Option Refusal → Option Refusal → Option Refusal
or_else None o = o
or_else (Some x) o = Some x

abbrev when : Bool → Refusal → Option Refusal
when b x = cond b (Some x) None

first-append : (xs ys : List Row) → first_given (xs ++ ys) ≡ or_else (first_given xs) (first_given ys)
first-append [] ys = refl
first-append (x ∷ xs) ys = go x.given refl (first-append xs ys)
  where
    go : (b : Bool) → x.given ≡ b → first_given (xs ++ ys) ≡ or_else (first_given xs) (first_given ys)
        → first_given (x ∷ xs ++ ys) ≡ or_else (first_given (x ∷ xs)) (first_given ys)
    go true e rest = rw e
    go false e rest = rw e rest

-- ---- rows 12 to 15

abbrev piece_refusal : Result Piece Refusal → Option Refusal
piece_refusal (Ok p) = None
piece_refusal (Err x) = Some x

exon-refusal : (x y : Option Exon)
    → piece_refusal (exon_piece x y)
    ≡ or_else (when (missing x) ExonNotFoundForStart) (or_else (when (missing y) ExonNotFoundForEnd) (when (differ x y) ExonIntronBoundary))
unfolding exon_piece missing differ
exon-refusal None y = refl
exon-refusal (Some x) None = refl
exon-refusal (Some x) (Some y) = go (eqb x.start.0 y.start.0 && eqb x.end.0 y.end.0) refl
  where
    go : (b : Bool) → (eqb x.start.0 y.start.0 && eqb x.end.0 y.end.0) ≡ b
        → piece_refusal (exon_piece (Some x) (Some y)) ≡ when (differ (Some x) (Some y)) ExonIntronBoundary
    go true e = rw e
    go false e = rw e

cut-refusal : (b : Bound) (start end : ℕ) (found : Result Piece Refusal)
    → piece_refusal (cut_at b start end found) ≡ or_else (piece_refusal found) (when (on_both_sides b start end) UtrExonBoundary)
unfolding cut_at on_both_sides
cut-refusal Absent start end (Ok p) = refl
cut-refusal Absent start end (Err x) = refl
cut-refusal Negative start end (Ok p) = refl
cut-refusal Negative start end (Err x) = refl
cut-refusal (At c) start end (Err x) = refl
cut-refusal (At c) start end (Ok p) = go (leb end c) (leb c start) refl refl
  where
    go : (a b : Bool) → leb end c ≡ a → leb c start ≡ b
        → piece_refusal (cut_at (At c) start end (Ok p)) ≡ when (ltb start c && ltb c end) UtrExonBoundary
    go true b e f = rw (e, le-ltb c end (leb-true end c e), and-false (ltb start c))
    go false true e f = rw (e, f, le-ltb start c (leb-true c start f))
    go false false e f = rw (e, f, lt-ltb c end (leb-false end c e), lt-ltb start c (leb-false c start f))

-- the exon's three rows and the two cuts, in one chain
chain : (a b c d e : Bool) (x y z u : Refusal)
    → or_else (or_else (or_else (when a x) (or_else (when b y) (when c z))) (when d u)) (when e u)
    ≡ cond a (Some x) (cond b (Some y) (cond c (Some z) (cond (d || e) (Some u) None)))
chain true b c d e x y z u = refl
chain false true c d e x y z u = refl
chain false false true d e x y z u = refl
chain false false false true e x y z u = refl
chain false false false false e x y z u = refl

piece-refusal : (kind : Kind) (bytes : List ℕ) (a b : Bound) (start end : ℕ)
    → piece_refusal (piece_for kind bytes a b start end) ≡ first_given (piece_rows kind (pieces_of bytes) a b start end)
unfolding piece_for piece_rows transcript_piece
piece-refusal Open bytes a b start end = refl
piece-refusal Crossing bytes a b start end = refl
piece-refusal Transcript bytes a b start end =
    let x : Option Exon = exon_holding start (pieces_of bytes) in
    let y : Option Exon = exon_holding (end - 1) (pieces_of bytes) in
    cut-refusal b start end (cut_at a start end (exon_piece x y))
    ∙ ap (λ (o : Option Refusal). or_else o (when (on_both_sides b start end) UtrExonBoundary))
    (cut-refusal a start end (exon_piece x y) ∙ ap (λ (o : Option Refusal). or_else o (when (on_both_sides a start end) UtrExonBoundary)) (exon-refusal x y))
    ∙ chain (missing x) (missing y) (differ x y) (on_both_sides a start end) (on_both_sides b start end)
    ExonNotFoundForStart ExonNotFoundForEnd ExonIntronBoundary UtrExonBoundary

-- ---- row 16, and the whole

abbrev refusal_of : Verdict → Option Refusal
refusal_of (refused x) = Some x
refusal_of (answered a) = None

or-16 : (report : Named → Answer) (direction : Direction) (kind : Kind) (piece : Piece) (target : List ℕ) (q : ℕ) (reference alternative : List ℕ)
    → refusal_of (answered_or16 report (named_at direction kind piece target q reference alternative))
    ≡ when (leaves_target direction piece target q reference alternative) VariantSpanOutsideSequenceBounds
unfolding answered_or16 named_at
or-16 report direction kind piece target q reference alternative = go (leaves_target direction piece target q reference alternative) refl
  where
    go : (b : Bool) → leaves_target direction piece target q reference alternative ≡ b
        → refusal_of (answered_or16 report (named_at direction kind piece target q reference alternative))
        ≡ when (leaves_target direction piece target q reference alternative) VariantSpanOutsideSequenceBounds
    go true e = rw e
    go false e = rw e

after-piece : (r : Request) (found : Result Piece Refusal)
    → refusal_of (after_piece (direction_of r.direction_code) (kind_of r.kind_code) r.target (change_of r) found)
    ≡ or_else (piece_refusal found) (first_given (span_rows r found))
unfolding after_piece span_rows moved_in normal normal_at
after-piece r (Err x) = refl
after-piece r (Ok p) =
    let direction : Direction = direction_of r.direction_code in
    let after : List ℕ = altered r.target (change_of r) in
    let t : Trimmed = trimmed direction r.target (change_of r) in
    let q : ℕ = place_of direction p r.target after t in
    or-16 (answer_moved direction p r.target after t) direction (kind_of r.kind_code) p r.target q
    (slice q (q + t.reference_size) r.target) (slice q (q + t.alternative_size) after)

at-once : (r : Request) (found : Result Piece Refusal) (o : Option Named) (later : List Row)
    → refusal_of (after_piece (direction_of r.direction_code) (kind_of r.kind_code) r.target (change_of r) found) ≡ first_given later
    → refusal_of (after_shortcuts (direction_of r.direction_code) (kind_of r.kind_code) r.target (change_of r) found o) ≡ first_given (unless_at_once o later)
unfolding after_shortcuts unless_at_once
at-once r found None later e = e
at-once r found (Some n) later e = refl

refused-or : (o : Option Refusal) (v : Verdict) → refusal_of (refused_or o v) ≡ or_else o (refusal_of v)
unfolding refused_or
refused-or None v = refl
refused-or (Some x) v = refl

-- the refusal of a verdict is that of the first row given
pub refusal-first : (r : Request) → refusal_of (verdict r) ≡ first_given (table r)
unfolding verdict table answer_in piece_of
refusal-first r =
    let kind : Kind = kind_of r.kind_code in
    let asked : List Row = piece_rows kind (pieces_of r.exon_bytes) (bound_of r.cds_start) (bound_of r.cds_end) (start_of r) (end_of r) in
    let span : List Row = span_rows r (piece_of r) in
    let o : Option Named = answered_at_once (edit_of r.edit_code) r in
    let moved : refusal_of (after_piece (direction_of r.direction_code) (kind_of r.kind_code) r.target (change_of r) (piece_of r)) ≡ first_given (asked ++ span) =
    after-piece r (piece_of r)
    ∙ ap (λ (x : Option Refusal). or_else x (first_given span)) (piece-refusal kind r.exon_bytes (bound_of r.cds_start) (bound_of r.cds_end) (start_of r) (end_of r))
    ∙ sym (first-append asked span) in
    refused-or (first_given (rows r)) (answer_in r (piece_of r))
    ∙ ap (or_else (first_given (rows r))) (at-once r (piece_of r) o (asked ++ span) moved)
    ∙ sym (first-append (rows r) (unless_at_once o (asked ++ span)))

-- ---- what `first_given` says

first_said : (xs : List Row) (x : Refusal) → first_given xs ≡ Some x → FirstSaid x xs
first_said [] x e =
    let z : ◌≡◌ {A = ℕ} 0 1 = cc in
    absurd (omega arith)
first_said (y ∷ xs) x e = go y.given refl (first_said xs x)
  where
    go : (b : Bool) → y.given ≡ b → (first_given xs ≡ Some x → FirstSaid x xs) → FirstSaid x (y ∷ xs)
    go true t rest =
        let f : Some y.refusal ≡ Some x = rw t at e in
        let g : y.refusal ≡ x = cc in
        record { earlier = []; later = xs; split = ap₂ (λ (a : Refusal) (b : Bool). record { refusal = a; given = b } ∷ xs) g t; silent = refl }
    go false t rest =
        let s : FirstSaid x xs = rest (rw t at e) in
        record { earlier = y ∷ s.earlier; later = s.later; split = ap (λ (l : List Row). y ∷ l) s.split; silent = rw t s.silent }

said-first : (earlier later : List Row) (x : Refusal) → none_given earlier ≡ true
    → first_given (earlier ++ (record { refusal = x; given = true } ∷ later)) ≡ Some x
said-first [] later x e = refl
said-first (y ∷ earlier) later x e = go y.given refl (said-first earlier later x)
  where
    go : (b : Bool) → y.given ≡ b
        → (none_given earlier ≡ true → first_given (earlier ++ (record { refusal = x; given = true } ∷ later)) ≡ Some x)
        → first_given (y ∷ earlier ++ (record { refusal = x; given = true } ∷ later)) ≡ Some x
    go true t rest = absurd (false≢true (rw t at e))
    go false t rest = rw t (rest (rw t at e))

refused-is : (v : Verdict) (x : Refusal) → refusal_of v ≡ Some x → v ≡ refused x
refused-is (refused y) x e =
    let f : y ≡ x = cc in
    ap refused f
refused-is (answered a) x e =
    let z : ◌≡◌ {A = ℕ} 0 1 = cc in
    absurd (omega arith)

pub demand-1 : Demand1
unfolding reply
demand-1 = record {
  exactly = λ r x. (
    (λ e. first_said (table r) x (sym (refusal-first r) ∙ ap refusal_of e)),
    (λ f. refused-is (verdict r) x (refusal-first r ∙ ap first_given f.split ∙ said-first f.earlier f.later x f.silent)),
  );
  untouched = λ r x reference alternative e. rw e;
}
