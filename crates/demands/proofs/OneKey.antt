-- Law 7, the document's third demand: two accepted requests over one target, with equal tables, kind and direction and any windows, that change
-- the sequence inside one piece, are answered alike exactly if their altered sequences are equal. Assumes nothing.
use mathlib.Core.Path.{◌≡◌, refl, sym, ap, ap₂, ◌∙◌, subst}
use mathlib.Core.Logic.{◌↔◌}
use mathlib.Core.Bool.{Bool, true, false, ◌&&◌, true≢false}
use mathlib.Core.List.{List, [], ◌∷◌, ◌++◌}
use Rattle.std.specs.Prelude.{None, Some}
use Prim.Native.Nat.{ℕ, ◌+◌, ◌-◌, ◌≤◌, ◌<◌}
use native.Mathlib.Omega.{arith}
use borrow.Author.Tests.{eqb-true}
use lib.Dec.{eqb}
use lib.ListN.{length, take, take-append-drop}
use lib.Seq.{slice, length-slice}
use Rattle.definition.specs.declared.Kind.{Kind}
use Rattle.definition.specs.declared.Edit.{Edit}
use Rattle.definition.specs.declared.Edit.TheVariants.{Insert, Duplicate, Delete, Replace, Invert}
use Rattle.definition.specs.declared.Direction.{Direction}
use Rattle.definition.specs.declared.Class.TheVariants.{Unchanged}
use Rattle.definition.specs.declared.Piece.{Piece}
use Rattle.definition.specs.Bases.{same_bases}
use Rattle.definition.specs.Change.{Change, spelled, altered, trimmed}
use Rattle.definition.specs.Request.{Request, altered_by, kind_of, edit_of, direction_of, start_of, end_of, change_of}
use Rattle.definition.specs.Place.{right_edge}
use Rattle.definition.specs.Answer.{Named, denoted}
use Rattle.definition.specs.Verdict.{Answer, answered, verdict, replaced_at_once, answered_at_once, piece_of, answer_in, normal}
use Rattle.demands.specs.Demand3.{Demand3}
use Rattle.definition.proofs.Tests.{and-true, same-equal, same_refl}
use Rattle.definition.proofs.Places.{slice-rest}
use Rattle.definition.proofs.Trims.{one-normal}
use Rattle.definition.proofs.Final.{normal-denotes}
use Rattle.definition.proofs.Accepted.{normal_of, accepted-sound, accepted-in, Route, at_once, moved, route, at-once-what, moved-what, Sound, Lies, lies, piece-holds}
use Rattle.definition.proofs.Pieces.{Holds}
use Rattle.demands.proofs.Substitution as Substitution
use Rattle.definition.specs.declared.Refusal.{Refusal}
use Rattle.std.specs.Prelude.{Ok, Result}

-- the two requests that are answered at once
pub identity : (target : List ℕ) (start end : ℕ) → start ≤ end → end ≤ length target
    → altered target (record { from = start; to = end; inserted = slice start end target }) ≡ target
unfolding altered
identity target start end h k = ap (λ (x : List ℕ). take start target ++ x) (slice-rest start end target h k) ∙ take-append-drop start target

pub one-base : (xs : List ℕ) → length xs ≡ 1 → (x : ℕ) × (xs ≡ x ∷ [])
one-base [] e = absurd (omega arith)
one-base (x ∷ []) e = (x, refl)
one-base (x ∷ y ∷ xs) e = absurd (omega arith)

module _ (direction : Direction) (kind : Kind) (piece : Piece) (target alt : List ℕ) (start end : ℕ) (o : start < end) (fits : end ≤ length target) where
  abbrev c : Change
  c = record { from = start; to = end; inserted = alt }

  one-other : same_bases (slice start end target) alt ≡ false → length (slice start end target) ≡ 1 → length alt ≡ 1
      → normal direction kind piece target (altered target c) (trimmed direction target c) ≡ Some (Substitution.replaced_by start (slice start end target) alt)
  one-other e f g =
      let x = one-base (slice start end target) f in
      let y = one-base alt g in
      let d : x.0 ≡ y.0 → ⊥ = λ z.
      true≢false (sym (same_refl alt) ∙ subst (λ (w : List ℕ). same_bases w alt ≡ false) (x.1 ∙ ap (λ (b : ℕ). b ∷ []) z ∙ sym y.1) e) in
      rw (x.1, y.1) (Substitution.one-normal direction target start end x.0 y.0 fits x.1 d kind piece)

  at-once : (n : Named) → (altered target c ≡ target → ⊥) → replaced_at_once start end (slice start end target) alt ≡ Some n
      → normal direction kind piece target (altered target c) (trimmed direction target c) ≡ Some n
  unfolding replaced_at_once
  at-once n changed e = go (same_bases (slice start end target) alt) (eqb (length (slice start end target)) 1 && eqb (length alt) 1) refl refl
    where
      go : (a b : Bool) → same_bases (slice start end target) alt ≡ a → (eqb (length (slice start end target)) 1 && eqb (length alt) 1) ≡ b
          → normal direction kind piece target (altered target c) (trimmed direction target c) ≡ Some n
      go true b t u =
          let unchanged = subst (λ (x : List ℕ). altered target (record { from = start; to = end; inserted = x }) ≡ target) (same-equal (slice start end target) alt t)
          (identity target start end (omega arith) fits) in
          absurd (changed unchanged)
      go false true t u =
          let f : Some (Substitution.replaced_by start (slice start end target) alt) ≡ Some n = rw (t, u) at e in
          let v = and-true (eqb (length (slice start end target)) 1) (eqb (length alt) 1) u in
          one-other t (eqb-true (length (slice start end target)) 1 v.0) (eqb-true (length alt) 1 v.1) ∙ f
      go false false t u =
          let f : None ≡ Some n = rw (t, u) at e in
          cc

shortcut-normal : (e : Edit) (r : Request) (direction : Direction) (kind : Kind) (p : Piece) (n : Named) → Sound r
    → (altered r.target (spelled e r.target (start_of r) (end_of r) r.alternative) ≡ r.target → ⊥)
    → answered_at_once e r ≡ Some n
    → normal direction kind p r.target (altered r.target (spelled e r.target (start_of r) (end_of r) r.alternative))
    (trimmed direction r.target (spelled e r.target (start_of r) (end_of r) r.alternative)) ≡ Some n
unfolding answered_at_once spelled
shortcut-normal Insert r direction kind p n s changed e = cc
shortcut-normal Duplicate r direction kind p n s changed e = cc
shortcut-normal Delete r direction kind p n s changed e = cc
shortcut-normal Replace r direction kind p n s changed e =
    at-once direction kind p r.target r.alternative (start_of r) (end_of r) s.ordered s.in_target n changed e
shortcut-normal Invert r direction kind p n s changed e = cc

-- a request that changes the sequence inside a piece is answered by its normal change there, at once or not
pub accepted-normal : (r : Request) (a : Answer) (p : Piece) → Sound r → answer_in r (Ok p) ≡ answered a
    → (altered_by r ≡ r.target → ⊥) → normal_of r p ≡ Some a.what
unfolding change_of
accepted-normal r a p s e changed = go (route r (Ok p) a e)
  where
    go : Route r (Ok p) a → normal_of r p ≡ Some a.what
    go (at_once n f g) =
        shortcut-normal (edit_of r.edit_code) r (direction_of r.direction_code) (kind_of r.kind_code) p n s changed f ∙ ap Some (at-once-what r n a g)
    go (moved w n f g h) =
        let y : p ≡ w = cc in
        subst (λ (x : Piece). normal_of r x ≡ Some a.what) (sym y) (g ∙ ap Some (moved-what r w n a h))

pub right-inside : (target : List ℕ) (p : Piece) (n e : ℕ) → n ≤ e → e ≤ length target → e ≤ p.right.0 → n ≤ right_edge p target
unfolding right_edge
right-inside target p n e h k l = omega arith

-- Law 6 for a request: whatever it is answered by, the answer denotes the altered sequence
replaced-denotes : (target ref alt : List ℕ) (start end : ℕ) → end ≡ start + 1
    → denoted target (Substitution.replaced_by start ref alt) ≡ altered target (record { from = start; to = end; inserted = alt })
unfolding denoted altered
replaced-denotes target ref alt start end w =
    let x : start + 1 - 1 ≡ start = omega arith in
    rw (w, x)

at-once-denotes : (target alt : List ℕ) (start end : ℕ) (n : Named) → start < end → end ≤ length target
    → replaced_at_once start end (slice start end target) alt ≡ Some n → denoted target n ≡ altered target (record { from = start; to = end; inserted = alt })
unfolding replaced_at_once denoted
at-once-denotes target alt start end n o fits e =
    go (same_bases (slice start end target) alt) (eqb (length (slice start end target)) 1 && eqb (length alt) 1) refl refl
  where
    go : (a b : Bool) → same_bases (slice start end target) alt ≡ a → (eqb (length (slice start end target)) 1 && eqb (length alt) 1) ≡ b
        → denoted target n ≡ altered target (record { from = start; to = end; inserted = alt })
    go true b t u =
        let f : Some (record { class = Unchanged; start = start + 1; end = end; reference = slice start end target; alternative = alt }) ≡ Some n = rw t at e in
        let g : record { class = Unchanged; start = start + 1; end = end; reference = slice start end target; alternative = alt } ≡ n = cc in
        subst (λ (x : Named). denoted target x ≡ altered target (record { from = start; to = end; inserted = alt })) g
        (sym (subst (λ (x : List ℕ). altered target (record { from = start; to = end; inserted = x }) ≡ target) (same-equal (slice start end target) alt t)
        (identity target start end (omega arith) fits)))
    go false true t u =
        let f : Some (Substitution.replaced_by start (slice start end target) alt) ≡ Some n = rw (t, u) at e in
        let g : Substitution.replaced_by start (slice start end target) alt ≡ n = cc in
        let v = and-true (eqb (length (slice start end target)) 1) (eqb (length alt) 1) u in
        let w : end ≡ start + 1 = omega (arith, sym (length-slice start end target fits) ∙ eqb-true (length (slice start end target)) 1 v.0) in
        subst (λ (x : Named). denoted target x ≡ altered target (record { from = start; to = end; inserted = alt })) g
        (replaced-denotes target (slice start end target) alt start end w)
    go false false t u =
        let f : None ≡ Some n = rw (t, u) at e in
        cc

shortcut-denotes : (e : Edit) (r : Request) (n : Named) → Sound r → answered_at_once e r ≡ Some n
    → denoted r.target n ≡ altered r.target (spelled e r.target (start_of r) (end_of r) r.alternative)
unfolding answered_at_once spelled
shortcut-denotes Insert r n s e = cc
shortcut-denotes Duplicate r n s e = cc
shortcut-denotes Delete r n s e = cc
shortcut-denotes Replace r n s e = at-once-denotes r.target r.alternative (start_of r) (end_of r) n s.ordered s.in_target e
shortcut-denotes Invert r n s e = cc

pub denotes-in : (r : Request) (found : Result Piece Refusal) (a : Answer) → Sound r → Holds (start_of r) (end_of r) found → answer_in r found ≡ answered a
    → denoted r.target a.what ≡ altered_by r
unfolding change_of
denotes-in r found a s holds e = go (route r found a e)
  where
    l : Lies (start_of r) (end_of r) (change_of r)
    l = lies r s

    go : Route r found a → denoted r.target a.what ≡ altered_by r
    go (at_once n f g) = ap (denoted r.target) (sym (at-once-what r n a g)) ∙ shortcut-denotes (edit_of r.edit_code) r n s f
    go (moved p n f g m) =
        let h : (p.left.0 ≤ start_of r) × (end_of r ≤ p.right.0) = holds p f in
        normal-denotes (direction_of r.direction_code) p r.target (change_of r) l.order (omega (arith, l.left, h.0))
        (right-inside r.target p (change_of r).to (end_of r) l.right s.in_target h.1)
        (kind_of r.kind_code) a.what s.nonempty (g ∙ ap Some (moved-what r p n a m))

pub answer-denotes : (r : Request) (a : Answer) → verdict r ≡ answered a → denoted r.target a.what ≡ altered_by r
answer-denotes r a e =
    let s : Sound r = accepted-sound r a e in
    denotes-in r (piece_of r) a s (piece-holds r s) (accepted-in r a e)

-- Law 7, for two requests with one piece, wherever the piece comes from
module _ (r s : Request) (a b : Answer) (p : Piece)
    (target : r.target ≡ s.target) (kind : r.kind_code ≡ s.kind_code) (direction : r.direction_code ≡ s.direction_code)
    (sound-r : Sound r) (sound-s : Sound s)
    (holds-r : Holds (start_of r) (end_of r) (Ok p)) (holds-s : Holds (start_of s) (end_of s) (Ok p))
    (answer-r : answer_in r (Ok p) ≡ answered a) (answer-s : answer_in s (Ok p) ≡ answered b)
    (changed-r : altered_by r ≡ r.target → ⊥) (changed-s : altered_by s ≡ s.target → ⊥) where
  pub one-key-only : a.what ≡ b.what → altered_by r ≡ altered_by s
  one-key-only e =
      sym (denotes-in r (Ok p) a sound-r holds-r answer-r) ∙ ap₂ denoted target e ∙ denotes-in s (Ok p) b sound-s holds-s answer-s

  pub one-key-if : altered_by r ≡ altered_by s → a.what ≡ b.what
  one-key-if e =
      let lr : Lies (start_of r) (end_of r) (change_of r) = lies r sound-r in
      let ls : Lies (start_of s) (end_of s) (change_of s) = lies s sound-s in
      let nr : normal_of r p ≡ Some a.what = accepted-normal r a p sound-r answer-r changed-r in
      let ns : normal (direction_of r.direction_code) (kind_of r.kind_code) p r.target (altered r.target (change_of s))
      (trimmed (direction_of r.direction_code) r.target (change_of s)) ≡ Some b.what =
      rw (target, kind, direction) (accepted-normal s b p sound-s answer-s changed-s) in
      let both : altered r.target (change_of r) ≡ altered r.target (change_of s) = e ∙ ap (λ (x : List ℕ). altered x (change_of s)) (sym target) in
      let same = one-normal (direction_of r.direction_code) (kind_of r.kind_code) p r.target (change_of r) (change_of s)
      lr.order (omega (arith, lr.right, sound-r.in_target)) ls.order (omega (arith, ls.right, sound-s.in_target, ap length target)) both in
      cc

  pub one-key-in : (a.what ≡ b.what) ↔ (altered_by r ≡ altered_by s)
  one-key-in = (one-key-only, one-key-if)

pub demand-3 : Demand3
demand-3 = record {
  one_key = λ r s a b setting one er es cr cs.
      let sr : Sound r = accepted-sound r a er in
      let ss : Sound s = accepted-sound s b es in
      one-key-in r s a b one.piece setting.target setting.kind setting.direction sr ss
      (subst (Holds (start_of r) (end_of r)) one.first (piece-holds r sr))
      (subst (Holds (start_of s) (end_of s)) one.second (piece-holds s ss))
      (rw one.first at (accepted-in r a er)) (rw one.second at (accepted-in s b es)) cr cs;
}
