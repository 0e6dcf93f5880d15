-- What is said of the lent buffers as they were and as they are. Assumes nothing.
use Rattle.std.specs.Prelude.{◌≡◌, Result}
use Rattle.definition.specs.declared.Answered.{Answered}
use Rattle.definition.specs.declared.Refusal.{Refusal}
use Rattle.definition.specs.Reply.{Met}
use Rattle.definition.specs.Verdict.{Verdict}
use Rattle.results.specs.declared.buffers.Buffers.{Buffers}

-- a verdict is met by what comes back and by both buffers
abbrev pub MetIn : Verdict → Result Answered Refusal → Buffers → Buffers → Type 0
MetIn v r before after = Met v r before.reference.now after.reference.now before.alternative.now after.alternative.now

-- they stay the caller's own: what is written through them reaches it. A clause of each function that is lent them, since an invariant of `Buffers` cannot
-- speak of two moments
pub record SameBuffers (before after : Buffers) : Type 0 where
  pub reference : after.reference.ghost_name ≡ before.reference.ghost_name
  pub alternative : after.alternative.ghost_name ≡ before.alternative.ghost_name
