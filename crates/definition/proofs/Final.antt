-- Laws 3 and 6 for a whole change: at its final place its alleles turn the target into the altered sequence, and what is named denotes it.
-- Assumes nothing.
use mathlib.Core.Path.{◌≡◌, refl, sym, ◌∙◌, subst}
use mathlib.Core.Logic.{◌⊎◌, inl, inr, ⊎_elim}
use mathlib.Core.Bool.{Bool, true, false}
use mathlib.Core.List.{List}
use Rattle.std.specs.Prelude.{None, Some}
use Prim.Native.Nat.{ℕ, ◌+◌, ◌-◌, ◌≤◌, ◌<◌, min}
use native.Mathlib.Nat.{le_refl}
use native.Mathlib.Omega.{arith}
use borrow.Author.Tests.{eqb-true, eqb-false}
use lib.Dec.{eqb}
use lib.ListN.{length}
use lib.Seq.{slice, length-slice}
use Rattle.definition.specs.declared.Kind.{Kind}
use Rattle.definition.specs.declared.Direction.{Direction}
use Rattle.definition.specs.declared.Piece.{Piece}
use Rattle.definition.specs.Prefix.{lcp, lcs}
use Rattle.definition.specs.Change.{Change, Trimmed, splice, altered, reference_of, trimmed_front, trimmed_end, trimmed_by, trimmed}
use Rattle.definition.specs.Place.{Equivalent, Inside, right_edge, furthest, is_pure, place_of}
use Rattle.definition.specs.Answer.{Named, named, first_base_rule, last_base_rule, leaves_target, denoted}
use Rattle.definition.specs.Verdict.{normal, normal_at, named_at}
use Rattle.definition.proofs.Places.{from-edge, restored, interval-restored, furthest-bounds}
use Rattle.definition.proofs.Trims.{kept, trim-facts, length-reference, trimmed-reference, trimmed-alternative, trimmed-start, trimmed-pure}
use Rattle.definition.proofs.Meaning.{Alleles, means-named, means-first, means-last}

-- an allele used up: nothing but the difference in length is left
pure-sizes : (n n' w : ℕ) → (n - min w (min n n') ≡ 0) ⊎ (n' - min w (min n n') ≡ 0) → (n - min w (min n n') ≡ n - n') × (n' - min w (min n n') ≡ n' - n)
pure-sizes n n' w (inl e) = (omega arith, omega arith)
pure-sizes n n' w (inr e) = (omega arith, omega arith)

-- none used up: what is kept is the prefix and the suffix
mixed-below : (n n' w : ℕ) → (n - min w (min n n') ≡ 0 → ⊥) → (n' - min w (min n n') ≡ 0 → ⊥) → (w < n) × (w < n')
mixed-below n n' w h k = (omega arith, omega arith)

mixed-kept : (n n' w : ℕ) → w < n → w < n' → min w (min n n') ≡ w
mixed-kept n n' w h k = omega arith

mixed-end : (n p s : ℕ) → p + s < n → (n - s ≡ p + (n - (p + s))) × (p + (n - (p + s)) ≤ n) × (p + s ≤ n)
mixed-end n p s h = omega arith

-- what is named at a place, where row 16 does not refuse it
pub named-is : (direction : Direction) (kind : Kind) (piece : Piece) (target : List ℕ) (q : ℕ) (ref alt : List ℕ) (n : Named)
    → named_at direction kind piece target q ref alt ≡ Some n → last_base_rule kind target (first_base_rule target (named direction piece target q ref alt)) ≡ n
unfolding named_at
named-is direction kind piece target q ref alt n e = go (leaves_target direction piece target q ref alt) refl
  where
    result : Named
    result = last_base_rule kind target (first_base_rule target (named direction piece target q ref alt))

    go : (b : Bool) → leaves_target direction piece target q ref alt ≡ b → result ≡ n
    go true t =
        let f : None ≡ Some n = rw t at e in
        cc
    go false t =
        let f : Some result ≡ Some n = rw t at e in
        cc

-- an answer with alleles that restore the altered sequence denotes it
named-denotes : (direction : Direction) (kind : Kind) (piece : Piece) (target after : List ℕ) (q : ℕ) (ref alt : List ℕ) (n : Named) → 1 ≤ length target
    → Alleles target after q ref alt → named_at direction kind piece target q ref alt ≡ Some n → denoted target n ≡ after
named-denotes direction kind piece target after q ref alt n big a e =
    subst (λ (x : Named). denoted target x ≡ after) (named-is direction kind piece target q ref alt n e)
    (means-last kind target after (first_base_rule target (named direction piece target q ref alt))
    (means-first target after (named direction piece target q ref alt) big (means-named target after q direction piece ref alt a)))

module _ (direction : Direction) (piece : Piece) (target : List ℕ) (c : Change) (order : c.from ≤ c.to) (left : piece.left.0 ≤ c.from)
    (right : c.to ≤ right_edge piece target) where
  fits : c.to ≤ length target
  unfolding right_edge
  fits = omega arith

  below : {x : ℕ} → x ≤ right_edge piece target → x ≤ length target
  unfolding right_edge
  below h = omega arith

  -- the trimmed change lies where the spelled one did
  pub trimmed-inside : Inside piece target (trimmed direction target c).reference_size (trimmed direction target c).start
  unfolding trimmed trimmed_by
  trimmed-inside =
      let f : trimmed_front direction (reference_of target c) c.inserted + trimmed_end direction (reference_of target c) c.inserted ≤ length (reference_of target c) =
      omega (arith, (trim-facts direction (reference_of target c) c.inserted).total) in
      let e : (trimmed direction target c).start + (trimmed direction target c).reference_size ≤ right_edge piece target =
      omega (arith, length-reference target c order fits) in
      record { at_left = omega arith; at_right = (from-edge piece target e).0; in_target = (from-edge piece target e).1 }

  -- a place, the sizes of the alleles there, and that the alleles restore the altered sequence
  unfoldable pub Restores : ℕ → ℕ → ℕ → Type 0
  Restores q k m = (q + k ≤ length target) × (splice target q (q + k) (slice q (q + m) (altered target c)) ≡ altered target c)

  -- a change with an allele used up: what is left of it is the difference in length, at an equivalent place inside
  pub record Pure : Type 0 where
    pub reference : (trimmed direction target c).reference_size ≡ length target - length (altered target c)
    pub alternative : (trimmed direction target c).alternative_size ≡ length (altered target c) - length target
    pub here : Equivalent target (altered target c) (length target - length (altered target c)) (trimmed direction target c).start
    pub inside : Inside piece target (length target - length (altered target c)) (trimmed direction target c).start

  pub pure : ((trimmed direction target c).reference_size ≡ 0) ⊎ ((trimmed direction target c).alternative_size ≡ 0) → Pure
  unfolding kept
  pure u =
      let after : List ℕ = altered target c in
      let w : ℕ = lcp target after + lcs target after in
      let t : Trimmed = trimmed direction target c in
      let kr : t.reference_size ≡ length target - min w (min (length target) (length after)) = trimmed-reference direction target c order fits in
      let ka : t.alternative_size ≡ length after - min w (min (length target) (length after)) = trimmed-alternative direction target c order fits in
      let d =
      pure-sizes (length target) (length after) w (⊎_elim (λ z. inl (sym kr ∙ z)) (λ z. inr (sym ka ∙ z)) u) in
      record {
        reference = kr ∙ d.0;
        alternative = ka ∙ d.1;
        here = trimmed-pure direction target c order fits u;
        inside = subst (λ (x : ℕ). Inside piece target x (trimmed direction target c).start) (kr ∙ d.0) trimmed-inside;
      }

  restores-pure : Pure
      → Restores (furthest direction piece target (altered target c) (trimmed direction target c).reference_size)
      (trimmed direction target c).reference_size (trimmed direction target c).alternative_size
  unfolding Restores
  restores-pure u =
      let after : List ℕ = altered target c in
      let b = furthest-bounds piece target after (trimmed direction target c).start u.here u.inside direction in
      rw (u.reference, u.alternative)
      (below b.3, interval-restored target after (furthest direction piece target after (length target - length after)) b.0 b.1)

  restores-mixed : ((trimmed direction target c).reference_size ≡ 0 → ⊥) → ((trimmed direction target c).alternative_size ≡ 0 → ⊥)
      → Restores (trimmed direction target c).start (trimmed direction target c).reference_size (trimmed direction target c).alternative_size
  unfolding Restores kept
  restores-mixed h k =
      let after : List ℕ = altered target c in
      let w : ℕ = lcp target after + lcs target after in
      let t : Trimmed = trimmed direction target c in
      let kr : t.reference_size ≡ length target - min w (min (length target) (length after)) = trimmed-reference direction target c order fits in
      let ka : t.alternative_size ≡ length after - min w (min (length target) (length after)) = trimmed-alternative direction target c order fits in
      let d : (w < length target) × (w < length after) = mixed-below (length target) (length after) w (λ z. h (kr ∙ z)) (λ z. k (ka ∙ z)) in
      let g : min w (min (length target) (length after)) ≡ w = mixed-kept (length target) (length after) w d.0 d.1 in
      let x = mixed-end (length target) (lcp target after) (lcs target after) d.0 in
      let y = mixed-end (length after) (lcp target after) (lcs target after) d.1 in
      rw (trimmed-start direction target c order fits h k, kr, ka, g)
      (x.1, rw (x.0, y.0) at (restored target after (lcp target after) (lcs target after) (le_refl (lcp target after)) (le_refl (lcs target after)) x.2 y.2))

  pub restores : Restores (place_of direction piece target (altered target c) (trimmed direction target c))
      (trimmed direction target c).reference_size (trimmed direction target c).alternative_size
  unfolding place_of is_pure
  restores = go (eqb (trimmed direction target c).reference_size 0) (eqb (trimmed direction target c).alternative_size 0) refl refl
    where
      go : (a b : Bool) → eqb (trimmed direction target c).reference_size 0 ≡ a → eqb (trimmed direction target c).alternative_size 0 ≡ b
          → Restores (place_of direction piece target (altered target c) (trimmed direction target c))
          (trimmed direction target c).reference_size (trimmed direction target c).alternative_size
      go true b e f = rw e (restores-pure (pure (inl (eqb-true (trimmed direction target c).reference_size 0 e))))
      go false true e f = rw (e, f) (restores-pure (pure (inr (eqb-true (trimmed direction target c).alternative_size 0 f))))
      go false false e f = rw (e, f)
          (restores-mixed (eqb-false (trimmed direction target c).reference_size 0 e) (eqb-false (trimmed direction target c).alternative_size 0 f))

  pub alleles : Alleles target (altered target c) (place_of direction piece target (altered target c) (trimmed direction target c))
      (slice (place_of direction piece target (altered target c) (trimmed direction target c))
      (place_of direction piece target (altered target c) (trimmed direction target c) + (trimmed direction target c).reference_size) target)
      (slice (place_of direction piece target (altered target c) (trimmed direction target c))
      (place_of direction piece target (altered target c) (trimmed direction target c) + (trimmed direction target c).alternative_size) (altered target c))
  unfolding Restores
  alleles =
      let q : ℕ = place_of direction piece target (altered target c) (trimmed direction target c) in
      let k : ℕ = (trimmed direction target c).reference_size in
      let size : length (slice q (q + k) target) ≡ k = length-slice q (q + k) target restores.0 ∙ omega arith in
      record {
        fits = rw size restores.0;
        reads = rw size;
        gives = rw size restores.1;
      }

  -- Law 6
  pub normal-denotes : (kind : Kind) (n : Named) → 1 ≤ length target
      → normal direction kind piece target (altered target c) (trimmed direction target c) ≡ Some n → denoted target n ≡ altered target c
  unfolding normal normal_at
  normal-denotes kind n big e = named-denotes direction kind piece target (altered target c) _ _ _ n big alleles e
