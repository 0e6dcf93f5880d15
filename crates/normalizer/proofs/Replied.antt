-- The outcome of a request, in numbers, is the definition's reply. Assumes nothing.
use mathlib.Core.Path.{◌≡◌, ap, ◌∙◌}
use mathlib.Core.List.{List}
use Prim.Native.Nat.{ℕ}
use Rattle.definition.specs.Verdict.{Verdict, refused, answered}
use Rattle.definition.specs.Reply.{reply, written, outcome_of, reference_out, alternative_out, Met}
use Rattle.demands.proofs.Numbers.{Fits32}
use Rattle.normalizer.specs.declared.replies.Answer.{Answer}
use Rattle.normalizer.specs.Replied.{Small, answer_of, Replied}
use Rattle.definition.specs.declared.Answered.{Answered}
use Rattle.definition.specs.declared.Refusal.{Refusal}
use Rattle.std.specs.Prelude.{Result}

module _ (v : Verdict) (reference alternative : List ℕ) where
  pub small-outcome : Fits32 (reply reference alternative v) → Small (outcome_of v)
  unfolding reply outcome_of
  small-outcome f = go v f
    where
      go : (w : Verdict) → Fits32 (reply reference alternative w) → Small (outcome_of w)
      go (refused x) f = tt
      go (answered a) f = record {
        start = f.start;
        end = f.end;
        probes = f.probes;
        reference = f.reference_size;
        alternative = f.alternative_size;
      }

  pub replied : (o : Result Answered Refusal) (r : Answer) (reference' alternative' : List ℕ) → Met v o reference reference' alternative alternative' → r ≡ answer_of o
      → Replied (reply reference alternative v) r reference' alternative'
  unfolding reply outcome_of reference_out alternative_out written answer_of
  replied o r reference' alternative' m e = go v m
    where
      go : (w : Verdict) → Met w o reference reference' alternative alternative' → Replied (reply reference alternative w) r reference' alternative'
      go (refused x) m =
          let n : r ≡ answer_of (outcome_of (refused x)) = e ∙ ap answer_of m.numbers in
          record {
            refusal = ap (λ (a : Answer). a.refusal) n;
            class = ap (λ (a : Answer). a.class) n;
            start = ap (λ (a : Answer). a.start) n;
            end = ap (λ (a : Answer). a.end) n;
            probes = ap (λ (a : Answer). a.probes) n;
            reference_size = ap (λ (a : Answer). a.reference_len) n;
            alternative_size = ap (λ (a : Answer). a.alternative_len) n;
            reference = m.reference_buffer;
            alternative = m.alternative_buffer;
          }
      go (answered b) m =
          let n : r ≡ answer_of (outcome_of (answered b)) = e ∙ ap answer_of m.numbers in
          record {
            refusal = ap (λ (a : Answer). a.refusal) n;
            class = ap (λ (a : Answer). a.class) n;
            start = ap (λ (a : Answer). a.start) n;
            end = ap (λ (a : Answer). a.end) n;
            probes = ap (λ (a : Answer). a.probes) n;
            reference_size = ap (λ (a : Answer). a.reference_len) n;
            alternative_size = ap (λ (a : Answer). a.alternative_len) n;
            reference = m.reference_buffer;
            alternative = m.alternative_buffer;
          }
