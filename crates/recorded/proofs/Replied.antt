-- What `normalize` hands back for a verdict, in numbers and with both buffers, is the definition's reply. Assumes nothing.
use Prim.Native.Nat.{ℕ}
use mathlib.Core.Path.{◌≡◌}
use mathlib.Core.List.{List}
use Rattle.definition.specs.Verdict.{Verdict, refused, answered}
use Rattle.definition.specs.Reply.{reply, written, outcome_of, reference_out, alternative_out, Met}
use Rattle.normalizer.specs.declared.replies.Answer.{Answer}
use Rattle.normalizer.specs.Replied.{answer_of}
use Rattle.recorded.specs.Replay.{reply_of}
use Rattle.definition.specs.declared.Answered.{Answered}
use Rattle.definition.specs.declared.Refusal.{Refusal}
use Rattle.std.specs.Prelude.{Result}

module _ {reference reference' alternative alternative' : List ℕ} {o : Result Answered Refusal} {numbers : Answer} (are : numbers ≡ answer_of o) where
  pub replied : (v : Verdict) → Met v o reference reference' alternative alternative'
      → reply_of numbers reference' alternative' ≡ reply reference alternative v
  unfolding reply outcome_of reference_out alternative_out written answer_of
  replied (refused x) m = rw (are, m.numbers, m.reference_buffer, m.alternative_buffer)
  replied (answered a) m = rw (are, m.numbers, m.reference_buffer, m.alternative_buffer)
