-- One base replaced by one other is answered at once as it would be inside a piece. Assumes nothing.
use mathlib.Core.Path.{◌≡◌, refl, sym, ap, ◌∙◌}
use mathlib.Core.Bool.{false}
use mathlib.Core.List.{List, [], ◌∷◌, ◌++◌, append_assoc}
use Rattle.std.specs.Prelude.{Some}
use Prim.Native.Nat.{ℕ, ◌+◌, ◌≤◌, min}
use native.Mathlib.Omega.{arith}
use borrow.Author.Tests.{ne_eqb}
use lib.Dec.{eqb}
use lib.ListN.{length, take, drop, length-append}
use lib.Seq.{slice, take_at, drop_at, length-slice, length-take-le}
use Rattle.definition.specs.declared.Kind.{Kind}
use Rattle.definition.specs.declared.Direction.{Direction}
use Rattle.definition.specs.declared.Direction.TheVariants.{Rightward, Leftward}
use Rattle.definition.specs.declared.Class.TheVariants.{Replacement}
use Rattle.definition.specs.declared.Piece.{Piece}
use Rattle.definition.specs.Prefix.{lcp, lcs}
use Rattle.definition.specs.Change.{Change, altered, reference_of, trimmed_front, trimmed_end, trimmed_by, trimmed}
use Rattle.definition.specs.Place.{is_pure, place_of}
use Rattle.definition.specs.Answer.{Named, named, named_replacement, is_inversion, first_base_rule, has_last_base_rule, last_base_rule, leaves_target}
use Rattle.definition.specs.Verdict.{normal, normal_at, named_at}
use Rattle.definition.proofs.Tests.{and-false}
use Rattle.definition.proofs.Trims.{TrimFacts, trim-facts}

abbrev pub replaced_by : ℕ → List ℕ → List ℕ → Named
replaced_by at ref alt = record { class = Replacement; start = at + 1; end = at + 1; reference = ref; alternative = alt }

-- two different bases share nothing
no-prefix : (x y : ℕ) → (x ≡ y → ⊥) → (lcp (x ∷ []) (y ∷ []) ≡ 0) × (lcs (x ∷ []) (y ∷ []) ≡ 0)
unfolding lcs
no-prefix x y d = (rw (ne_eqb x y d), rw (ne_eqb x y d))

module _ (direction : Direction) (target : List ℕ) (at end x y : ℕ) (fits : end ≤ length target)
    (reads : slice at end target ≡ x ∷ []) (d : x ≡ y → ⊥) where
  abbrev one : Change
  one = record { from = at; to = end; inserted = y ∷ [] }

  one-wide : end ≡ at + 1
  one-wide = omega (arith, sym (length-slice at end target fits) ∙ ap length reads)

  -- nothing is trimmed
  pub one-trimmed : trimmed direction target one ≡ record { start = at; reference_size = 1; alternative_size = 1 }
  unfolding trimmed trimmed_by reference_of
  one-trimmed =
      let n : (lcp (x ∷ []) (y ∷ []) ≡ 0) × (lcs (x ∷ []) (y ∷ []) ≡ 0) = no-prefix x y d in
      let f : TrimFacts (lcp (x ∷ []) (y ∷ [])) (lcs (x ∷ []) (y ∷ [])) (min 1 1) (trimmed_front direction (x ∷ []) (y ∷ [])) (trimmed_end direction (x ∷ []) (y ∷ [])) =
      trim-facts direction (x ∷ []) (y ∷ []) in
      let front : trimmed_front direction (x ∷ []) (y ∷ []) ≡ 0 = omega (arith, f.front_fits, n.0) in
      let back : trimmed_end direction (x ∷ []) (y ∷ []) ≡ 0 = omega (arith, f.end_fits, n.1) in
      let s : at + 0 ≡ at = omega arith in
      rw (reads, front, back, s)

  one-read : slice at (at + 1) (altered target one) ≡ y ∷ []
  unfolding altered
  one-read =
      let size : length (take at target) ≡ at = length-take-le at target (omega (arith, one-wide)) in
      let front : take (at + 1) (altered target one) ≡ take at target ++ (y ∷ []) =
      ap (take (at + 1)) (sym (append_assoc (take at target) (y ∷ []) (drop end target)))
      ∙ take_at (take at target ++ (y ∷ [])) (drop end target) (at + 1) (length-append (take at target) (y ∷ []) ∙ omega (arith, size)) in
      ap (drop at) front ∙ drop_at (take at target) (y ∷ []) at size

  one-leaves : (direction : Direction) (piece : Piece) → leaves_target direction piece target at (x ∷ []) (y ∷ []) ≡ false
  unfolding leaves_target
  one-leaves Rightward piece = refl
  one-leaves Leftward piece = refl

  one-named : (kind : Kind) (piece : Piece) → named_at direction kind piece target at (x ∷ []) (y ∷ []) ≡ Some (replaced_by at (x ∷ []) (y ∷ []))
  unfolding named_at named named_replacement is_inversion first_base_rule last_base_rule
  one-named kind piece =
      let first : eqb (at + 1) 0 ≡ false = ne_eqb (at + 1) 0 (omega arith) in
      let last : eqb (at + 1) (length target + 1) ≡ false = ne_eqb (at + 1) (length target + 1) (omega (arith, one-wide)) in
      rw (one-leaves direction piece, first, last, and-false (has_last_base_rule kind))

  pub one-normal : (kind : Kind) (piece : Piece)
      → normal direction kind piece target (altered target one) (trimmed direction target one) ≡ Some (replaced_by at (x ∷ []) (y ∷ []))
  unfolding normal normal_at place_of is_pure
  one-normal kind piece =
      let here : slice at (at + 1) target ≡ x ∷ [] = rw one-wide at reads in
      rw (one-trimmed, here, one-read) (one-named kind piece)
