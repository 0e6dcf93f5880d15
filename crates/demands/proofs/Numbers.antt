-- Every number of a reply fits 32 bits: a range ends at most one past the target, and a move compares at most one pair more than the target
-- has bases. Assumes nothing.
use Rattle.demands.proofs.Answers.{demand-2}
use Rattle.demands.proofs.Sizes.{answer-short}
use Rattle.definition.specs.declared.Kind.{Kind}
use Rattle.definition.specs.declared.Edit.{Edit}
use Rattle.definition.specs.declared.Edit.TheVariants.{Insert, Duplicate, Delete, Replace, Invert}
use Rattle.definition.specs.declared.Direction.{Direction}
use Rattle.definition.specs.declared.Refusal.{Refusal}
use Rattle.definition.specs.declared.Refusal.TheVariants.{BadCode, BadWindow, BadTarget, BadBase, CoordinatesOutOfBounds, BadInsertion, TooLong}
use Rattle.definition.specs.declared.Refusal.TheVariants.{BadAllele, NoRoom, BadTables, ExonNotFoundForStart, ExonNotFoundForEnd}
use Rattle.definition.specs.declared.Refusal.TheVariants.{ExonIntronBoundary, UtrExonBoundary, VariantSpanOutsideSequenceBounds}
use Rattle.definition.specs.declared.Class.{Class}
use Rattle.definition.specs.declared.Class.TheVariants.{Insertion, Duplication, Deletion, Replacement, Inversion, Unchanged}
use Rattle.definition.specs.declared.Piece.{Piece}
use Rattle.definition.proofs.Trims.{trim-facts, length-reference}
use lib.Seq.{slice, length-slice}
use Rattle.demands.specs.Demand2.{AtOnce, Moved}
use Rattle.definition.proofs.Tests.{none-some}
use mathlib.Core.Path.{◌≡◌, refl, subst, sym}
use mathlib.Core.Bool.{Bool, true, false, ◌&&◌}
use mathlib.Core.List.{List, [], ◌∷◌}
use Rattle.std.specs.Prelude.{None, Some}
use Prim.Native.Nat.{ℕ, ◌+◌, ◌≤◌, ◌<◌, ◌-◌}
use mathlib.Core.Logic.{⊎_elim}
use native.Mathlib.Omega.{arith}
use lib.Dec.{eqb}
use lib.ListN.{length}
use Rattle.definition.specs.Bases.{same_bases}
use Rattle.definition.specs.Change.{Trimmed, trimmed, trimmed_by, Change, reference_of}
use Rattle.definition.specs.Request.{Request, start_of, edit_of, end_of, direction_of, change_of, altered_by, kind_of}
use Rattle.definition.specs.Place.{stopped_by_base, is_pure, probes_of}
use Rattle.definition.specs.Answer.{Named, copy_beside, copy_start, named_insertion, is_inversion, named_replacement, named}
use Rattle.definition.specs.Answer.{first_base_rule, has_last_base_rule, last_base_rule, class_number}
use Rattle.definition.specs.Limits.{longest_target, answer_room}
use Rattle.definition.specs.Verdict.{refused, answered, Answer, verdict, replaced_at_once, answered_at_once, Verdict}
use Rattle.definition.specs.Reply.{Reply, reply, refusal_number}
use Rattle.definition.proofs.Meaning.{copy-fits}
use Rattle.definition.proofs.Accepted.{Sound, accepted-sound, Lies, lies}

-- a range that ends at most one past the target
abbrev Near : List ℕ → Named → Type 0
Near target n = (n.start ≤ length target + 1) × (n.end ≤ length target + 1)

near-inserted : (direction : Direction) (piece : Piece) (target : List ℕ) (q : ℕ) (alt : List ℕ) → q ≤ length target
    → Near target (named_insertion direction piece target q alt)
unfolding named_insertion
near-inserted direction piece target q alt h = go (copy_beside direction piece target q alt) refl
  where
    go : (b : Bool) → copy_beside direction piece target q alt ≡ b → Near target (named_insertion direction piece target q alt)
    go true t =
        let f : copy_start direction q (length alt) + length alt ≤ length target = copy-fits direction piece target q alt h t in
        rw t (omega arith)
    go false t = rw t (omega arith)

near-replaced : (target : List ℕ) (q : ℕ) (ref alt : List ℕ) → q + length ref ≤ length target → Near target (named_replacement q ref alt)
unfolding named_replacement
near-replaced target q ref alt h = go (is_inversion ref alt) refl
  where
    go : (b : Bool) → is_inversion ref alt ≡ b → Near target (named_replacement q ref alt)
    go true t = rw t (omega arith)
    go false t = rw t (omega arith)

near-named : (direction : Direction) (piece : Piece) (target : List ℕ) (q : ℕ) (ref alt : List ℕ) → q + length ref ≤ length target
    → Near target (named direction piece target q ref alt)
unfolding named
near-named direction piece target q [] [] h = omega arith
near-named direction piece target q [] (x ∷ alt) h = near-inserted direction piece target q (x ∷ alt) (omega arith)
near-named direction piece target q (y ∷ ref) [] h = omega arith
near-named direction piece target q (y ∷ ref) (x ∷ alt) h = near-replaced target q (y ∷ ref) (x ∷ alt) h

near_first : (target : List ℕ) (n : Named) → Near target n → Near target (first_base_rule target n)
unfolding first_base_rule
near_first target n h = go (eqb n.start 0) refl
  where
    go : (b : Bool) → eqb n.start 0 ≡ b → Near target (first_base_rule target n)
    go true t = rw t (omega arith)
    go false t = rw t h

near_last : (kind : Kind) (target : List ℕ) (n : Named) → Near target n → Near target (last_base_rule kind target n)
unfolding last_base_rule
near_last kind target n h = go (has_last_base_rule kind && eqb n.end (length target + 1)) refl
  where
    go : (b : Bool) → (has_last_base_rule kind && eqb n.end (length target + 1)) ≡ b → Near target (last_base_rule kind target n)
    go true t = rw t (omega arith)
    go false t = rw t h

near-at-once : (start end : ℕ) (target ref alt : List ℕ) (n : Named) → start < end → end ≤ length target
    → replaced_at_once start end ref alt ≡ Some n → Near target n
unfolding replaced_at_once
near-at-once start end target ref alt n o h e = go (same_bases ref alt) (eqb (length ref) 1 && eqb (length alt) 1) refl refl
  where
    both : (x : Named) → Some x ≡ Some n → Near target x → Near target n
    both x f s =
        let g : x ≡ n = cc in
        subst (Near target) g s

    go : (b c : Bool) → same_bases ref alt ≡ b → (eqb (length ref) 1 && eqb (length alt) 1) ≡ c → Near target n
    go true c t u = both (record { class = Unchanged; start = start + 1; end = end; reference = ref; alternative = alt }) (rw t at e) (omega arith)
    go false true t u = both (record { class = Replacement; start = start + 1; end = start + 1; reference = ref; alternative = alt }) (rw (t, u) at e) (omega arith)
    go false false t u =
        let f : None ≡ Some n = rw (t, u) at e in
        absurd (none-some f)

near-shortcut : (e : Edit) (r : Request) (n : Named) → Sound r → answered_at_once e r ≡ Some n → Near r.target n
unfolding answered_at_once
near-shortcut Insert r n s f = absurd (none-some f)
near-shortcut Duplicate r n s f = absurd (none-some f)
near-shortcut Delete r n s f = absurd (none-some f)
near-shortcut Replace r n s f =
    near-at-once (start_of r) (end_of r) r.target (slice (start_of r) (end_of r) r.target) r.alternative n s.ordered s.in_target f
near-shortcut Invert r n s f = absurd (none-some f)

start_fits : (direction : Direction) (target : List ℕ) (c : Change) → c.from ≤ c.to → c.to ≤ length target
    → (trimmed direction target c).start ≤ length target
unfolding trimmed trimmed_by
start_fits direction target c order fits =
    omega (arith, (trim-facts direction (reference_of target c) c.inserted).total, length-reference target c order fits)

few-probes : (direction : Direction) (piece : Piece) (target : List ℕ) (t : Trimmed) (q : ℕ) → q ≤ length target → t.start ≤ length target
    → probes_of direction piece target t q ≤ length target + 1
unfolding probes_of
few-probes direction piece target t q h k = go (is_pure t) (stopped_by_base direction piece target t.reference_size q) refl refl
  where
    go : (a b : Bool) → is_pure t ≡ a → stopped_by_base direction piece target t.reference_size q ≡ b → probes_of direction piece target t q ≤ length target + 1
    go true true e f = rw (e, f) (omega arith)
    go true false e f = rw (e, f) (omega arith)
    go false b e f = rw e (omega arith)

-- what every number of an answer is below
pub record Small (a : Answer) (limit : ℕ) : Type 0 where
  pub start : a.what.start ≤ limit
  pub end : a.what.end ≤ limit
  pub probes : a.probes ≤ limit

pub answer-small : (r : Request) (a : Answer) → verdict r ≡ answered a → Small a (length r.target + 1)
answer-small r a e = ⊎_elim at-once moved (demand-2.ways r a e)
  where
    s : Sound r
    s = accepted-sound r a e

    at-once : AtOnce r a → Small a (length r.target + 1)
    at-once o =
        let n : Near r.target a.what = near-shortcut (edit_of r.edit_code) r a.what s o.what in
        record { start = n.0; end = n.1; probes = omega (arith, o.probes) }

    moved : Moved r a → Small a (length r.target + 1)
    moved m =
        let direction : Direction = direction_of r.direction_code in
        let t : Trimmed = trimmed direction r.target (change_of r) in
        let q : ℕ = m.place in
        let ref : List ℕ = slice q (q + t.reference_size) r.target in
        let alt : List ℕ = slice q (q + t.alternative_size) (altered_by r) in
        let size : length ref ≡ q + t.reference_size - q = length-slice q (q + t.reference_size) r.target m.settled.inside.in_target in
        let fits : q + t.reference_size ≤ length r.target = m.settled.inside.in_target in
        let l : Lies (start_of r) (end_of r) (change_of r) = lies r s in
        let from : t.start ≤ length r.target = start_fits direction r.target (change_of r) l.order (omega (arith, l.right, s.in_target)) in
        let what : Named = named direction m.piece r.target q ref alt in
        let n : Near r.target a.what = subst (Near r.target) (sym m.what)
        (near_last (kind_of r.kind_code) r.target (first_base_rule r.target what)
        (near_first r.target what (near-named direction m.piece r.target q ref alt (omega arith)))) in
        let p : probes_of direction m.piece r.target t q ≤ length r.target + 1 = few-probes direction m.piece r.target t q (omega arith) from in
        record { start = n.0; end = n.1; probes = omega (arith, m.probes, p) }

pub record Fits32 (p : Reply) : Type 0 where
  pub refusal : p.refusal < 4294967296
  pub class : p.class < 4294967296
  pub start : p.start < 4294967296
  pub end : p.end < 4294967296
  pub probes : p.probes < 4294967296
  pub reference_size : p.reference_size < 4294967296
  pub alternative_size : p.alternative_size < 4294967296

number_small : (x : Refusal) → refusal_number x < 4294967296
number_small BadCode = omega arith
number_small BadWindow = omega arith
number_small BadTarget = omega arith
number_small BadBase = omega arith
number_small CoordinatesOutOfBounds = omega arith
number_small BadInsertion = omega arith
number_small TooLong = omega arith
number_small BadAllele = omega arith
number_small NoRoom = omega arith
number_small BadTables = omega arith
number_small ExonNotFoundForStart = omega arith
number_small ExonNotFoundForEnd = omega arith
number_small ExonIntronBoundary = omega arith
number_small UtrExonBoundary = omega arith
number_small VariantSpanOutsideSequenceBounds = omega arith

class-small : (c : Class) → class_number c < 4294967296
class-small Insertion = omega arith
class-small Duplication = omega arith
class-small Deletion = omega arith
class-small Replacement = omega arith
class-small Inversion = omega arith
class-small Unchanged = omega arith

pub reply-fits : (r : Request) (reference alternative : List ℕ) → Fits32 (reply reference alternative (verdict r))
unfolding reply
reply-fits r reference alternative = go (verdict r) refl
  where
    go : (v : Verdict) → verdict r ≡ v → Fits32 (reply reference alternative v)
    go (refused x) e = record {
      refusal = number_small x;
      class = omega arith;
      start = omega arith;
      end = omega arith;
      probes = omega arith;
      reference_size = omega arith;
      alternative_size = omega arith;
    }
    go (answered a) e =
        let s : Small a (length r.target + 1) = answer-small r a e in
        let l : length r.target ≤ longest_target = (accepted-sound r a e).short in
        let z : (length a.what.reference ≤ answer_room) × (length a.what.alternative ≤ answer_room) = answer-short r a e in
        record {
          refusal = omega arith;
          class = class-small a.what.class;
          start = omega (arith, s.start);
          end = omega (arith, s.end);
          probes = omega (arith, s.probes);
          reference_size = omega arith;
          alternative_size = omega arith;
        }
