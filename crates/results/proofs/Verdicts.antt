-- What comes back and what is written meets the verdict: row 16, and an answer. Assumes nothing.
use Prim.Native.Nat.{ℕ, ◌≤◌}
use native.Mathlib.Omega.{arith}
use mathlib.Core.Path.{◌≡◌, refl, sym, ◌∙◌}
use mathlib.Core.Bool.{true, false}
use mathlib.Core.List.{List}
use lib.ListN.{take}
use Rattle.definition.specs.declared.Direction.{Direction}
use Rattle.definition.specs.declared.Kind.{Kind}
use Rattle.definition.specs.declared.Piece.{Piece}
use Rattle.definition.specs.declared.Refusal.TheVariants.{VariantSpanOutsideSequenceBounds}
use Rattle.definition.specs.Answer.{Named, named, first_base_rule, last_base_rule, leaves_target}
use Rattle.definition.specs.Verdict.{answered, answered_or16, named_at}
use Rattle.definition.specs.Reply.{written, outcome_of, reference_out, alternative_out, Met}
use Rattle.alleles.specs.Window.{window}
use Rattle.alleles.proofs.Laws.{window-take}
use Rattle.results.specs.declared.classes.Called.{Called}
use Rattle.results.specs.Called.{called_in}
use Rattle.results.specs.Reported.{reported}
use Rattle.definition.specs.declared.Answered.{Answered}
use Rattle.definition.specs.declared.Refusal.{Refusal}
use Rattle.std.specs.Prelude.{Err, Result}

-- the bases that are kept are the same of the window and of its beginning
pub called-kept : (target bytes : List ℕ) (head count : ℕ) (n : Called) → n.alternative_size ≤ count
    → called_in target (window bytes head n.alternative_size) n ≡ called_in target (window bytes head count) n
unfolding called_in
called-kept target bytes head count n h =
    let kept : take n.alternative_size (window bytes head n.alternative_size) ≡ take n.alternative_size (window bytes head count) =
    window-take bytes head n.alternative_size n.alternative_size (omega arith)
    ∙ sym (window-take bytes head n.alternative_size count h) in
    rw kept

module _ (direction : Direction) (kind : Kind) (piece : Piece) (target : List ℕ) (q probes : ℕ) (reference bases : List ℕ) where
  -- row 16 touches no buffer
  pub met-row-16 : (ref alt : List ℕ) → leaves_target direction piece target q reference bases ≡ true
      → Met (answered_or16 (reported probes) (named_at direction kind piece target q reference bases)) (Err VariantSpanOutsideSequenceBounds) ref ref alt alt
  unfolding named_at answered_or16 outcome_of reference_out alternative_out written
  met-row-16 ref alt t = rw t (record { numbers = refl; reference_buffer = refl; alternative_buffer = refl })

  -- where row 16 is not given, what is named and ruled is answered
  pub met-answered : (what : Named) (r : Result Answered Refusal) (ref ref' alt alt' : List ℕ) → leaves_target direction piece target q reference bases ≡ false
      → what ≡ last_base_rule kind target (first_base_rule target (named direction piece target q reference bases))
      → Met (answered (reported probes what)) r ref ref' alt alt'
      → Met (answered_or16 (reported probes) (named_at direction kind piece target q reference bases)) r ref ref' alt alt'
  unfolding named_at answered_or16
  met-answered what r ref ref' alt alt' t e m = rw (t, ← e) m
