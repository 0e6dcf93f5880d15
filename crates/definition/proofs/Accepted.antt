-- What is known of a request that is not refused: its numbers, the order of the change that it spells, and that the piece holds its range.
-- Assumes nothing.
use mathlib.Core.Path.{◌≡◌, refl, ap}
use mathlib.Core.Bool.{Bool, true, false, not, ◌||◌, true≢false}
use mathlib.Core.List.{List, [], ◌∷◌, ◌++◌}
use Rattle.std.specs.Prelude.{Option, None, Some}
use Prim.Native.Nat.{ℕ, zero, suc, ◌+◌, ◌-◌, ◌≤◌, ◌<◌}
use native.Mathlib.Omega.{arith}
use borrow.Author.Tests.{eqb-true, leb-false, ltb-false, not-false}
use lib.Dec.{eqb, leb, ltb}
use lib.IntN.{ℤ, pos, negsuc}
use lib.Signed.{lt_z, le_z, mag}
use lib.ListN.{length, get_or}
use Rattle.definition.specs.declared.Edit.{Edit}
use Rattle.definition.specs.declared.Edit.TheVariants.{Insert, Duplicate, Delete, Replace, Invert}
use Rattle.definition.specs.declared.Refusal.{Refusal}
use Rattle.definition.specs.declared.Refusal.TheVariants.{BadCode}
use Rattle.definition.specs.declared.Piece.{Piece}
use Rattle.definition.specs.Change.{Change, spelled, trimmed}
use Rattle.definition.specs.Request.{Request, altered_by, bound_of, kind_of, edit_of, direction_of, start_of, end_of, change_of}
use Rattle.definition.specs.Limits.{longest_target, longest_allele}
use Rattle.definition.specs.Verdict.{Answer, Verdict, refused, answered, verdict, Row, first_given, target_rows, change_rows, request_rows, rows}
use Rattle.definition.specs.Verdict.{bad_target, out_of_bounds, bad_insertion, too_long, read_alternative, answered_at_once, piece_of, normal, answer_at_once}
use Rattle.definition.specs.Verdict.{answer_moved, answered_or16, moved_in, after_piece, after_shortcuts, answer_in, refused_or}
use Rattle.definition.specs.Answer.{Named}
use Rattle.definition.proofs.Tests.{or-false}
use Rattle.definition.proofs.Pieces.{Holds, piece-for-holds}
use Rattle.std.specs.Prelude.{Err, Ok, Result}

-- no row is given: this one is not, and none after it
first-none : (x : Row) (xs : List Row) → first_given (x ∷ xs) ≡ None → (x.given ≡ false) × (first_given xs ≡ None)
first-none x xs e = go x.given refl
  where
    go : (b : Bool) → x.given ≡ b → (x.given ≡ false) × (first_given xs ≡ None)
    go true t =
        let f : Some x.refusal ≡ None = rw t at e in
        let z : ◌≡◌ {A = ℕ} 0 1 = cc in
        absurd (omega arith)
    go false t = (t, rw t at e)

-- .. so no row of the table is given, whatever its place
abbrev no_row : Row
no_row = record { refusal = BadCode; given = false }

none-given : (xs : List Row) → first_given xs ≡ None → (i : ℕ) → (get_or xs i no_row).given ≡ false
none-given [] e i = refl
none-given (x ∷ xs) e zero = (first-none x xs e).0
none-given (x ∷ xs) e (suc i) = none-given xs (first-none x xs e).1 i

bounds : (s e : ℤ) (size : ℕ) → (lt_z s (pos 0) || le_z e s || lt_z (pos size) e) ≡ false → (mag s < mag e) × (mag e ≤ size)
bounds (pos a) (pos b) size h =
    let f : (ltb a 0 || leb b a ≡ false) × (ltb size b ≡ false) = or-false (ltb a 0 || leb b a) (ltb size b) h in
    let g : (ltb a 0 ≡ false) × (leb b a ≡ false) = or-false (ltb a 0) (leb b a) f.0 in
    (leb-false b a g.1, ltb-false size b f.1)
bounds (pos a) (negsuc b) size h =
    let f : (ltb a 0 || true ≡ false) × (false ≡ false) = or-false (ltb a 0 || true) false h in
    absurd (true≢false (or-false (ltb a 0) true f.0).1)
bounds (negsuc a) (pos b) size h = absurd (true≢false h)
bounds (negsuc a) (negsuc b) size h = absurd (true≢false h)

-- the numbers of a request that passes rows 1 to 10
pub record Sound (r : Request) : Type 0 where
  pub ordered : start_of r < end_of r
  pub in_target : end_of r ≤ length r.target
  pub nonempty : 1 ≤ length r.target
  pub short : length r.target ≤ longest_target
  pub flanks : bad_insertion (edit_of r.edit_code) r ≡ false
  pub range_size : end_of r - start_of r ≤ longest_allele
  pub alternative_size : length (read_alternative (edit_of r.edit_code) r.alternative) ≤ longest_allele

pub sound : (r : Request) → first_given (request_rows r) ≡ None → Sound r
unfolding request_rows target_rows change_rows bad_target out_of_bounds too_long start_of end_of
sound r e =
    let row₃ : (eqb (length r.target) 0 || ltb longest_target (length r.target)) ≡ false = none-given (request_rows r) e 2 in
    let row₅ : (lt_z r.range_start (pos 0) || le_z r.range_end r.range_start || lt_z (pos (length r.target)) r.range_end) ≡ false =
    none-given (request_rows r) e 4 in
    let row₆ : bad_insertion (edit_of r.edit_code) r ≡ false = none-given (request_rows r) e 5 in
    let row₇ : (ltb longest_allele (end_of r - start_of r) || ltb longest_allele (length (read_alternative (edit_of r.edit_code) r.alternative))) ≡ false =
    none-given (request_rows r) e 6 in
    let l = or-false (ltb longest_allele (end_of r - start_of r)) (ltb longest_allele (length (read_alternative (edit_of r.edit_code) r.alternative))) row₇ in
    let b = bounds r.range_start r.range_end (length r.target) row₅ in
    let t = or-false (eqb (length r.target) 0) (ltb longest_target (length r.target)) row₃ in
    record {
      ordered = b.0;
      in_target = b.1;
      nonempty = omega (arith, b);
      short = ltb-false longest_target (length r.target) t.1;
      flanks = row₆;
      range_size = ltb-false longest_allele (end_of r - start_of r) l.0;
      alternative_size = ltb-false longest_allele (length (read_alternative (edit_of r.edit_code) r.alternative)) l.1;
    }

-- the change that a request spells lies in its range
pub record Lies (start end : ℕ) (c : Change) : Type 0 where
  pub order : c.from ≤ c.to
  pub left : start ≤ c.from
  pub right : c.to ≤ end

spelled-lies : (e : Edit) (r : Request) → start_of r < end_of r → bad_insertion e r ≡ false
    → Lies (start_of r) (end_of r) (spelled e r.target (start_of r) (end_of r) r.alternative)
unfolding spelled bad_insertion
spelled-lies Insert r h f =
    let g : end_of r ≡ start_of r + 2 =
    eqb-true (end_of r) (start_of r + 2)
    (not-false (eqb (end_of r) (start_of r + 2)) (or-false (not (eqb (end_of r) (start_of r + 2))) (eqb (length r.alternative) 0) f).0) in
    record { order = omega arith; left = omega arith; right = omega arith }
spelled-lies Duplicate r h f = record { order = omega arith; left = omega arith; right = omega arith }
spelled-lies Delete r h f = record { order = omega arith; left = omega arith; right = omega arith }
spelled-lies Replace r h f = record { order = omega arith; left = omega arith; right = omega arith }
spelled-lies Invert r h f = record { order = omega arith; left = omega arith; right = omega arith }

pub lies : (r : Request) → Sound r → Lies (start_of r) (end_of r) (change_of r)
unfolding change_of
lies r s = spelled-lies (edit_of r.edit_code) r s.ordered s.flanks

-- the piece that is found for a request holds its range
pub piece-holds : (r : Request) → Sound r → Holds (start_of r) (end_of r) (piece_of r)
unfolding piece_of
piece-holds r s =
    piece-for-holds (kind_of r.kind_code) r.exon_bytes (bound_of r.cds_start) (bound_of r.cds_end) (start_of r) (end_of r) s.ordered
    (omega (arith, s.in_target, s.short))

-- what a request's answer is inside a piece
abbrev pub normal_of : Request → Piece → Option Named
normal_of r p =
    normal (direction_of r.direction_code) (kind_of r.kind_code) p r.target (altered_by r) (trimmed (direction_of r.direction_code) r.target (change_of r))

-- and what is reported of it there
abbrev pub report_of : Request → Piece → Named → Answer
report_of r p =
    answer_moved (direction_of r.direction_code) p r.target (altered_by r) (trimmed (direction_of r.direction_code) r.target (change_of r))

never : {n : Refusal} {a : Answer} {X : Type 0} → refused n ≡ answered a → X
never e =
    let z : ◌≡◌ {A = ℕ} 0 1 = cc in
    absurd (omega arith)

-- what is not refused passes the rows, and is answered by the rest
pub passed : (o : Option Refusal) (v : Verdict) (a : Answer) → refused_or o v ≡ answered a → (o ≡ None) × (v ≡ answered a)
unfolding refused_or
passed None v a e = (refl, e)
passed (Some n) v a e = never e

pub first-front : (xs ys : List Row) → first_given (xs ++ ys) ≡ None → first_given xs ≡ None
first-front [] ys e = refl
first-front (x ∷ xs) ys e =
    let f : (x.given ≡ false) × (first_given (xs ++ ys) ≡ None) = first-none x (xs ++ ys) e in
    rw f.0 (first-front xs ys f.1)

pub first-last : (xs : List Row) (y : Row) → first_given (xs ++ (y ∷ [])) ≡ None → y.given ≡ false
first-last [] y e = (first-none y [] e).0
first-last (x ∷ xs) y e = first-last xs y (first-none x (xs ++ (y ∷ [])) e).1

pub accepted-sound : (r : Request) (a : Answer) → verdict r ≡ answered a → Sound r
unfolding verdict rows
accepted-sound r a e = sound r (first-front (request_rows r) _ (passed (first_given (rows r)) (answer_in r (piece_of r)) a e).0)

pub accepted-in : (r : Request) (a : Answer) → verdict r ≡ answered a → answer_in r (piece_of r) ≡ answered a
unfolding verdict
accepted-in r a e = (passed (first_given (rows r)) (answer_in r (piece_of r)) a e).1

answered-16 : (report : Named → Answer) (o : Option Named) (a : Answer) → answered_or16 report o ≡ answered a → (n : Named) × (o ≡ Some n) × (report n ≡ a)
unfolding answered_or16
answered-16 report None a e = never e
answered-16 report (Some n) a e = (n, refl, cc)

-- how a request was answered, with the piece found for it: at once, or by its normal change in the piece
pub data Route (r : Request) (found : Result Piece Refusal) (a : Answer) : Type 0 where
  at_once : (n : Named) → answered_at_once (edit_of r.edit_code) r ≡ Some n → answer_at_once n ≡ a → Route r found a
  moved : (p : Piece) (n : Named) → found ≡ Ok p → normal_of r p ≡ Some n → report_of r p n ≡ a → Route r found a

-- either way the answer holds what was named
pub at-once-what : (r : Request) (n : Named) (a : Answer) → answer_at_once n ≡ a → n ≡ a.what
unfolding answer_at_once
at-once-what r n a e = ap (λ (x : Answer). x.what) e

pub moved-what : (r : Request) (p : Piece) (n : Named) (a : Answer) → report_of r p n ≡ a → n ≡ a.what
unfolding answer_moved
moved-what r p n a e = ap (λ (x : Answer). x.what) e

after-piece : (r : Request) (found : Result Piece Refusal) (a : Answer)
    → after_piece (direction_of r.direction_code) (kind_of r.kind_code) r.target (change_of r) found ≡ answered a → Route r found a
unfolding after_piece moved_in
after-piece r (Err n) a e = never e
after-piece r (Ok p) a e =
    let x = answered-16 (report_of r p) (normal_of r p) a e in
    moved p x.0 refl x.1 x.2

after-shortcuts : (r : Request) (found : Result Piece Refusal) (a : Answer) (o : Option Named) → answered_at_once (edit_of r.edit_code) r ≡ o
    → after_shortcuts (direction_of r.direction_code) (kind_of r.kind_code) r.target (change_of r) found o ≡ answered a → Route r found a
unfolding after_shortcuts
after-shortcuts r found a None i e = after-piece r found a e
after-shortcuts r found a (Some n) i e = at_once n i (cc)

pub route : (r : Request) (found : Result Piece Refusal) (a : Answer) → answer_in r found ≡ answered a → Route r found a
unfolding answer_in
route r found a e = after-shortcuts r found a (answered_at_once (edit_of r.edit_code) r) refl e
