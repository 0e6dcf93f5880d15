-- Law 8: no allele of an answer is longer than an answer buffer. Assumes nothing.
use mathlib.Core.Path.{◌≡◌, refl, ap, ◌∙◌, subst}
use mathlib.Core.Bool.{Bool, true, false, ◌&&◌}
use mathlib.Core.List.{List, [], ◌∷◌}
use Rattle.std.specs.Prelude.{None, Some}
use Prim.Native.Nat.{ℕ, suc, ◌+◌, ◌-◌, ◌≤◌}
use native.Mathlib.Omega.{arith}
use borrow.Author.Tests.{eqb-true}
use lib.Dec.{eqb}
use lib.ListN.{length, take, drop, length-append, length-take, length-drop}
use lib.Seq.{slice}
use Rattle.definition.specs.declared.Kind.{Kind}
use Rattle.definition.specs.declared.Edit.{Edit}
use Rattle.definition.specs.declared.Edit.TheVariants.{Insert, Duplicate, Delete, Replace, Invert}
use Rattle.definition.specs.declared.Direction.{Direction}
use Rattle.definition.specs.declared.Class.TheVariants.{Replacement, Unchanged}
use Rattle.definition.specs.declared.Piece.{Piece}
use Rattle.definition.specs.Bases.{same_bases}
use Rattle.definition.specs.Change.{Change, spelled, altered, reference_of, trimmed, trimmed_by}
use Rattle.definition.specs.Request.{Request, kind_of, edit_of, direction_of, start_of, end_of, change_of}
use Rattle.definition.specs.Answer.{Named, named, named_insertion, named_replacement, first_base_rule, last_base_rule, copy_beside, is_inversion, has_last_base_rule}
use Rattle.definition.specs.Place.{place_of}
use Rattle.definition.specs.Limits.{longest_allele, answer_room}
use Rattle.definition.specs.Verdict.{Answer, answered, verdict, read_alternative, replaced_at_once, answered_at_once, piece_of, named_at, normal, normal_at}
use Rattle.definition.proofs.Final.{named-is}
use Rattle.definition.proofs.Tests.{none-some, and-true, length-reverse-complement}
use Rattle.definition.proofs.Accepted.{Sound, accepted-sound, accepted-in, Route, at_once, moved, route, at-once-what, moved-what}

slice-short : (f t : ℕ) (l : List ℕ) → length (slice f t l) ≤ t - f
slice-short f t l = simp (length-drop, length-take) (omega arith)

-- both alleles at most `limit` long; or one more by an end rule, and not by both
abbrev Short : ℕ → Named → Type 0
Short limit n = (length n.reference ≤ limit) × (length n.alternative ≤ limit)

record Fits (target : List ℕ) (limit : ℕ) (n : Named) : Type 0 where
  both : Short (suc limit) n
  at_last : n.end ≡ length target + 1 → length n.alternative ≤ limit

module _ (target : List ℕ) (limit : ℕ) (ref alt : List ℕ) (r : length ref ≤ limit) (a : length alt ≤ limit) where
  short-inserted : (direction : Direction) (piece : Piece) (q : ℕ) → Short limit (named_insertion direction piece target q alt)
  unfolding named_insertion
  short-inserted direction piece q = go (copy_beside direction piece target q alt) refl
    where
      go : (b : Bool) → copy_beside direction piece target q alt ≡ b → Short limit (named_insertion direction piece target q alt)
      go true t = rw t (omega arith)
      go false t = rw t (omega arith)

  short-replaced : (q : ℕ) → Short limit (named_replacement q ref alt)
  unfolding named_replacement
  short-replaced q = go (is_inversion ref alt) refl
    where
      go : (b : Bool) → is_inversion ref alt ≡ b → Short limit (named_replacement q ref alt)
      go true t = rw t (omega arith)
      go false t = rw t (omega arith)

short-named : (target : List ℕ) (limit : ℕ) (direction : Direction) (piece : Piece) (q : ℕ) (ref alt : List ℕ) → length ref ≤ limit → length alt ≤ limit
    → Short limit (named direction piece target q ref alt)
unfolding named
short-named target limit direction piece q [] [] r a = omega arith
short-named target limit direction piece q [] (x ∷ alt) r a = short-inserted target limit [] (x ∷ alt) r a direction piece q
short-named target limit direction piece q (y ∷ ref) [] r a = omega arith
short-named target limit direction piece q (y ∷ ref) (x ∷ alt) r a = short-replaced target limit (y ∷ ref) (x ∷ alt) r a q

fits-first : (target : List ℕ) (limit : ℕ) (n : Named) → 1 ≤ length target → Short limit n → Fits target limit (first_base_rule target n)
unfolding first_base_rule
fits-first target limit n big h = go (eqb n.start 0) refl
  where
    one : length (take 1 target) ≤ 1
    one = simp length-take (omega arith)

    go : (b : Bool) → eqb n.start 0 ≡ b → Fits target limit (first_base_rule target n)
    go true t = rw t (record { both = (omega (arith, one), rw length-append (omega (arith, one, h))); at_last = λ z. absurd (omega arith) })
    go false t = rw t (record { both = omega (arith, h); at_last = λ z. h.1 })

short-last : (kind : Kind) (target : List ℕ) (limit : ℕ) (n : Named) → Fits target limit n → Short (suc limit) (last_base_rule kind target n)
unfolding last_base_rule
short-last kind target limit n f = go (has_last_base_rule kind && eqb n.end (length target + 1)) refl
  where
    one : length (drop (length target - 1) target) ≤ 1
    one = simp length-drop (omega arith)

    go : (b : Bool) → (has_last_base_rule kind && eqb n.end (length target + 1)) ≡ b → Short (suc limit) (last_base_rule kind target n)
    go true t =
        let z : n.end ≡ length target + 1 = eqb-true n.end (length target + 1) (and-true (has_last_base_rule kind) (eqb n.end (length target + 1)) t).1 in
        rw t (omega (arith, one), rw length-append (omega (arith, one, f.at_last z)))
    go false t = rw t f.both

short-at : (direction : Direction) (kind : Kind) (piece : Piece) (target : List ℕ) (limit q : ℕ) (ref alt : List ℕ) (n : Named)
    → 1 ≤ length target → length ref ≤ limit → length alt ≤ limit → named_at direction kind piece target q ref alt ≡ Some n → Short (suc limit) n
short-at direction kind piece target limit q ref alt n big r a e =
    subst (Short (suc limit)) (named-is direction kind piece target q ref alt n e)
    (short-last kind target limit (first_base_rule target (named direction piece target q ref alt))
    (fits-first target limit (named direction piece target q ref alt) big (short-named target limit direction piece q ref alt r a)))

reference-size : (direction : Direction) (target : List ℕ) (c : Change) (limit : ℕ) → c.to - c.from ≤ limit
    → (trimmed direction target c).reference_size ≤ limit
unfolding trimmed trimmed_by reference_of
reference-size direction target c limit h = omega (arith, slice-short c.from c.to target)

alternative-size : (direction : Direction) (target : List ℕ) (c : Change) (limit : ℕ) → length c.inserted ≤ limit
    → (trimmed direction target c).alternative_size ≤ limit
unfolding trimmed trimmed_by
alternative-size direction target c limit h = omega arith

-- a change's normal form is no longer than the change as it is spelled
pub normal-short : (direction : Direction) (kind : Kind) (piece : Piece) (target : List ℕ) (c : Change) (limit : ℕ) (n : Named) → 1 ≤ length target
    → c.to - c.from ≤ limit → length c.inserted ≤ limit
    → normal direction kind piece target (altered target c) (trimmed direction target c) ≡ Some n
    → (length n.reference ≤ suc limit) × (length n.alternative ≤ suc limit)
unfolding normal normal_at
normal-short direction kind piece target c limit n big r a e =
    let q : ℕ = place_of direction piece target (altered target c) (trimmed direction target c) in
    let k : (trimmed direction target c).reference_size ≤ limit = reference-size direction target c limit r in
    let m : (trimmed direction target c).alternative_size ≤ limit = alternative-size direction target c limit a in
    short-at direction kind piece target limit q
    (slice q (q + (trimmed direction target c).reference_size) target) (slice q (q + (trimmed direction target c).alternative_size) (altered target c)) n big
    (omega (arith, slice-short q (q + (trimmed direction target c).reference_size) target))
    (omega (arith, slice-short q (q + (trimmed direction target c).alternative_size) (altered target c))) e

spelled-short : (e : Edit) (r : Request) → Sound r → length (read_alternative e r.alternative) ≤ longest_allele
    → ((spelled e r.target (start_of r) (end_of r) r.alternative).to - (spelled e r.target (start_of r) (end_of r) r.alternative).from ≤ longest_allele)
    × (length (spelled e r.target (start_of r) (end_of r) r.alternative).inserted ≤ longest_allele)
unfolding spelled read_alternative
spelled-short Insert r s a = omega arith
spelled-short Duplicate r s a = omega (arith, slice-short (start_of r) (end_of r) r.target, s.range_size)
spelled-short Delete r s a = omega (arith, s.range_size)
spelled-short Replace r s a = omega (arith, s.range_size)
spelled-short Invert r s a =
    omega (arith, slice-short (start_of r) (end_of r) r.target, s.range_size, length-reverse-complement (slice (start_of r) (end_of r) r.target))

at-once-short : (start end : ℕ) (ref alt : List ℕ) (limit : ℕ) (n : Named) → length ref ≤ limit → length alt ≤ limit
    → replaced_at_once start end ref alt ≡ Some n
    → Short limit n
unfolding replaced_at_once
at-once-short start end ref alt limit n r a e = go (same_bases ref alt) (eqb (length ref) 1 && eqb (length alt) 1) refl refl
  where
    both : (x : Named) → Some x ≡ Some n → Short limit x → Short limit n
    both x f s =
        let g : x ≡ n = cc in
        subst (Short limit) g s

    go : (b c : Bool) → same_bases ref alt ≡ b → (eqb (length ref) 1 && eqb (length alt) 1) ≡ c → Short limit n
    go true c t u = both (record { class = Unchanged; start = start + 1; end = end; reference = ref; alternative = alt }) (rw t at e) (r, a)
    go false true t u = both (record { class = Replacement; start = start + 1; end = start + 1; reference = ref; alternative = alt }) (rw (t, u) at e) (r, a)
    go false false t u =
        let f : None ≡ Some n = rw (t, u) at e in
        let z : ◌≡◌ {A = ℕ} 0 1 = cc in
        absurd (omega arith)

shortcut-short : (e : Edit) (r : Request) (n : Named) → Sound r → length (read_alternative e r.alternative) ≤ longest_allele → answered_at_once e r ≡ Some n
    → Short longest_allele n
unfolding answered_at_once read_alternative
shortcut-short Insert r n s a e = absurd (none-some e)
shortcut-short Duplicate r n s a e = absurd (none-some e)
shortcut-short Delete r n s a e = absurd (none-some e)
shortcut-short Replace r n s a e =
    at-once-short (start_of r) (end_of r) (slice (start_of r) (end_of r) r.target) r.alternative longest_allele n
    (omega (arith, slice-short (start_of r) (end_of r) r.target, s.range_size)) a e
shortcut-short Invert r n s a e = absurd (none-some e)

-- Law 8
pub answer-short : (r : Request) (a : Answer) → verdict r ≡ answered a
    → (length a.what.reference ≤ answer_room) × (length a.what.alternative ≤ answer_room)
unfolding change_of
answer-short r a e = go (route r (piece_of r) a (accepted-in r a e))
  where
    s : Sound r
    s = accepted-sound r a e

    go : Route r (piece_of r) a → (length a.what.reference ≤ answer_room) × (length a.what.alternative ≤ answer_room)
    go (at_once n f g) =
        subst (λ (x : Named). (length x.reference ≤ answer_room) × (length x.alternative ≤ answer_room)) (at-once-what r n a g)
        (omega (arith, shortcut-short (edit_of r.edit_code) r n s s.alternative_size f))
    go (moved p n f g h) =
        let b = spelled-short (edit_of r.edit_code) r s s.alternative_size in
        normal-short (direction_of r.direction_code) (kind_of r.kind_code) p r.target (change_of r) longest_allele a.what s.nonempty b.0 b.1
        (g ∙ ap Some (moved-what r p n a h))
