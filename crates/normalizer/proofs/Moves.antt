-- What the shuffle leaves is what the result asks for, and what the result gives is the definition's. Over both directions. Assumes nothing.
use mathlib.Core.Path.{◌≡◌, ap, ap₂, ◌∙◌}
use mathlib.Core.List.{List}
use Rattle.std.specs.Prelude.{Option}
use Prim.Native.Nat.{ℕ, ◌+◌, ◌≤◌}
use native.Mathlib.Omega.{arith}
use lib.ListN.{length}
use lib.Seq.{slice}
use Rattle.definition.specs.declared.Direction.{Direction}
use Rattle.definition.specs.declared.Kind.{Kind}
use Rattle.definition.specs.declared.Piece.{Piece}
use Rattle.definition.specs.Limits.{longest_target, longest_allele}
use Rattle.definition.specs.Change.{Change, altered, trimmed, trimmed_by, Trimmed}
use Rattle.definition.specs.Place.{place_of, probes_of}
use Rattle.definition.specs.Answer.{Named}
use Rattle.definition.specs.Verdict.{answered_or16, answer_moved, named_at, normal, normal_at, moved_in}
use Rattle.definition.proofs.Places.{from-edge}
use Rattle.definition.proofs.Trims.{length-reference}
use Rattle.definition.proofs.Final.{Restores, restores}
use Rattle.alleles.specs.Held.{held}
use Rattle.alleles.specs.declared.Allele.{Allele}
use Rattle.shuffle.specs.declared.slides.Shuffled.{Shuffled}
use Rattle.shuffle.specs.Settled.{Asked, Settled}
use Rattle.results.specs.Settled as result
use Rattle.results.specs.Reported.{reported}

module _ (direction : Direction) (kind : Kind) (piece : Piece) (target : List ℕ) (c : Change) (most : ℕ) (asked : Asked piece target c most)
    (r a : Allele) (s : Shuffled) (st : Settled direction piece target c r a s) where
  abbrev t : Trimmed
  t = trimmed direction target c

  abbrev q : ℕ
  q = place_of direction piece target (altered target c) t

  -- the alleles of the trimmed change are no longer than those of the spelled one
  reference-short : t.reference_size ≤ longest_allele
  unfolding trimmed trimmed_by
  reference-short = omega (arith, length-reference target c asked.order (from-edge piece target asked.right).1, asked.sizes.reference)

  alternative-short : t.alternative_size ≤ longest_allele
  unfolding trimmed trimmed_by
  alternative-short = omega (arith, asked.sizes.alternative)

  pub moved_asked : 1 ≤ length target → length target ≤ longest_target
      → result.Settled target s.place.0 r.count a.head a.count
  unfolding Restores
  moved_asked big short = record {
    nonempty = big;
    short = short;
    in_target = omega (arith, st.place, st.reference.count, (restores direction piece target c asked.order asked.left asked.right).0);
    reference = omega (arith, st.reference.count, reference-short);
    placed = st.alternative.good;
    alternative = omega (arith, st.alternative.count, alternative-short);
  }

  named-there : named_at direction kind piece target s.place.0 (slice s.place.0 (s.place.0 + r.count) target) (held a)
      ≡ normal direction kind piece target (altered target c) t
  unfolding normal normal_at
  named-there =
      ap₂ (λ (n : ℕ) (x : List ℕ). named_at direction kind piece target s.place.0 (slice s.place.0 (s.place.0 + n) target) x)
      st.reference.count st.alternative.bases
      ∙ ap (λ (n : ℕ). named_at direction kind piece target n (slice n (n + t.reference_size) target) (slice n (n + t.alternative_size) (altered target c))) st.place

  pub moved-verdict :
      answered_or16 (reported s.probes)
      (named_at direction kind piece target s.place.0 (slice s.place.0 (s.place.0 + r.count) target) (held a))
      ≡ moved_in direction kind piece target c
  unfolding moved_in answer_moved
  moved-verdict =
      ap₂ (λ (n : ℕ) (o : Option Named). answered_or16 (reported n) o) (st.probes ∙ ap (probes_of direction piece target t) st.place) named-there
