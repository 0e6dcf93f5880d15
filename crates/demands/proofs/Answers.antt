-- Demand 2 is met: an accepted answer was given at once, or is that of its change at the furthest place. Assumes nothing.
use mathlib.Core.Path.{◌≡◌, refl, sym, ap, ◌∙◌, subst}
use mathlib.Core.Logic.{◌⊎◌, inl, inr}
use mathlib.Core.Bool.{Bool, true, false, false≢true}
use mathlib.Core.List.{List}
use Rattle.std.specs.Prelude.{Some}
use Prim.Native.Nat.{ℕ, ◌+◌, ◌≤◌}
use native.Mathlib.Omega.{arith}
use borrow.Author.Tests.{eqb-true}
use lib.Dec.{eqb}
use lib.Seq.{slice}
use Rattle.definition.specs.declared.Direction.{Direction}
use Rattle.definition.specs.declared.Piece.{Piece}
use Rattle.definition.specs.Change.{Change, Trimmed, altered, trimmed}
use Rattle.definition.specs.Request.{Request, altered_by, kind_of, direction_of, start_of, end_of, change_of}
use Rattle.definition.specs.Place.{Equivalent, Inside, NotFurther, right_edge, is_pure, place_of}
use Rattle.definition.specs.Verdict.{Answer, answered, verdict, piece_of, normal, normal_at, answer_at_once, answer_moved}
use Rattle.demands.specs.Demand2.{Settled, Moved, AtOnce, Demand2}
use Rattle.definition.proofs.Places.{none-further, furthest-inside}
use Rattle.definition.proofs.Final.{Restores, restores, Pure, pure, trimmed-inside, named-is}
use Rattle.definition.proofs.Accepted.{Sound, accepted-sound, accepted-in, Route, at_once, moved, route, at-once-what, moved-what, Lies, lies, piece-holds}
use Rattle.demands.proofs.OneKey.{answer-denotes, right-inside}

-- pure or not, by the sizes
pure-true : (t : Trimmed) → is_pure t ≡ true → (t.reference_size ≡ 0) ⊎ (t.alternative_size ≡ 0)
unfolding is_pure
pure-true t e = go (eqb t.reference_size 0) (eqb t.alternative_size 0) refl refl
  where
    go : (a b : Bool) → eqb t.reference_size 0 ≡ a → eqb t.alternative_size 0 ≡ b → (t.reference_size ≡ 0) ⊎ (t.alternative_size ≡ 0)
    go true b f g = inl (eqb-true t.reference_size 0 f)
    go false true f g = inr (eqb-true t.alternative_size 0 g)
    go false false f g = absurd (false≢true (rw (f, g) at e))

module _ (direction : Direction) (piece : Piece) (target : List ℕ) (c : Change) (order : c.from ≤ c.to) (left : piece.left.0 ≤ c.from)
    (right : c.to ≤ right_edge piece target) where
  abbrev t : Trimmed
  t = trimmed direction target c

  abbrev after : List ℕ
  after = altered target c

  moved_inside : (b : Bool) → is_pure t ≡ b → Inside piece target t.reference_size (place_of direction piece target after t)
  unfolding place_of
  moved_inside true e =
      let p : Pure direction piece target c order left right = pure direction piece target c order left right (pure-true t e) in
      rw (e, p.reference) (furthest-inside piece target after t.start p.here p.inside direction)
  moved_inside false e = rw e (trimmed-inside direction piece target c order left right)

  moved-furthest : is_pure t ≡ true → (other : ℕ) → Equivalent target after t.reference_size other → Inside piece target t.reference_size other
      → NotFurther direction other (place_of direction piece target after t)
  unfolding place_of
  moved-furthest e other same inside =
      let p : Pure direction piece target c order left right = pure direction piece target c order left right (pure-true t e) in
      rw (e, p.reference)
      (none-further direction piece target after other
      (subst (λ (k : ℕ). Equivalent target after k other) p.reference same)
      (subst (λ (k : ℕ). Inside piece target k other) p.reference inside))

  moved-stays : is_pure t ≡ false → place_of direction piece target after t ≡ t.start
  unfolding place_of
  moved-stays e = rw e

  pub settled : Settled direction piece target after t (place_of direction piece target after t)
  unfolding Restores
  settled = record {
    inside = moved_inside (is_pure t) refl;
    kept = (restores direction piece target c order left right).1;
    furthest = moved-furthest;
    stays = moved-stays;
  }

module _ (r : Request) (a : Answer) (e : verdict r ≡ answered a) where
  sound : Sound r
  sound = accepted-sound r a e

  way : Route r (piece_of r) a → AtOnce r a ⊎ Moved r a
  unfolding answer_at_once answer_moved normal normal_at
  way (at_once n f g) = inl (record { what = f ∙ ap Some (at-once-what r n a g); probes = sym (ap (λ (x : Answer). x.probes) g) })
  way (moved p n f g h) =
      let l : Lies (start_of r) (end_of r) (change_of r) = lies r sound in
      let holds : (p.left.0 ≤ start_of r) × (end_of r ≤ p.right.0) = piece-holds r sound p f in
      let direction : Direction = direction_of r.direction_code in
      let t : Trimmed = trimmed direction r.target (change_of r) in
      let q : ℕ = place_of direction p r.target (altered_by r) t in
      inr
      (record {
        piece = p;
        place = q;
        found = f;
        settled = settled direction p r.target (change_of r) l.order (omega (arith, l.left, holds.0))
            (right-inside r.target p (change_of r).to (end_of r) l.right sound.in_target holds.1);
        what = sym (moved-what r p n a h)
            ∙ sym (named-is direction (kind_of r.kind_code) p r.target q
            (slice q (q + t.reference_size) r.target) (slice q (q + t.alternative_size) (altered_by r)) n g);
        probes = sym (ap (λ (x : Answer). x.probes) h);
      })

pub demand-2 : Demand2
demand-2 = record { kept = answer-denotes; ways = λ r a e. way r a e (route r (piece_of r) a (accepted-in r a e)) }
