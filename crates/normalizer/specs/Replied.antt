-- A reply in numbers: an outcome's, and the definition's reply told by them and by both buffers. Assumes nothing.
use Rattle.std.specs.Prelude.{◌≡◌, List, ℕ, ◌<◌}
use Rattle.definition.specs.declared.Answered.{Answered}
use Rattle.definition.specs.Answer.{class_number}
use Rattle.definition.specs.Reply.{Reply, refusal_number}
use Rattle.normalizer.specs.declared.replies.Answer.{Answer}
use Rattle.definition.specs.declared.Refusal.{Refusal}
use Rattle.std.specs.Prelude.{Err, Ok, Result}

-- every number of an answer fits 32 bits
pub record Small32 (a : Answered) : Type 0 where
  pub start : a.start.0 < 4294967296
  pub end : a.end.0 < 4294967296
  pub probes : a.probes < 4294967296
  pub reference : a.reference_size < 4294967296
  pub alternative : a.alternative_size < 4294967296

abbrev pub Small : Result Answered Refusal → Type 0
Small (Err x) = Unit
Small (Ok a) = Small32 a

unfoldable pub answer_of : Result Answered Refusal → Answer
answer_of (Err x) = record {
  refusal = refusal_number x;
  class = 0;
  start = 0;
  end = 0;
  probes = 0;
  reference_len = 0;
  alternative_len = 0;
}
answer_of (Ok a) = record {
  refusal = 0;
  class = class_number a.class;
  start = a.start.0;
  end = a.end.0;
  probes = a.probes;
  reference_len = a.reference_size;
  alternative_len = a.alternative_size;
}

-- the definition's reply, in the numbers that are given back and in both buffers as they are left
pub record Replied (p : Reply) (r : Answer) (reference_buffer alternative_buffer : List ℕ) : Type 0 where
  pub refusal : r.refusal ≡ p.refusal
  pub class : r.class ≡ p.class
  pub start : r.start ≡ p.start
  pub end : r.end ≡ p.end
  pub probes : r.probes ≡ p.probes
  pub reference_size : r.reference_len ≡ p.reference_size
  pub alternative_size : r.alternative_len ≡ p.alternative_size
  pub reference : reference_buffer ≡ p.reference_buffer
  pub alternative : alternative_buffer ≡ p.alternative_buffer
