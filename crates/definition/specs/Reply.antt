-- What the caller sees of a verdict: the numbers of docs/RULES.md, and both answer buffers. Assumes nothing.
use Rattle.std.specs.Prelude.{ℕ, ◌≡◌, List, [], ◌++◌, length, drop}
use Rattle.definition.specs.declared.Refusal.{Refusal}
use Rattle.definition.specs.declared.Refusal.TheVariants.{BadCode, BadWindow, BadTarget, BadBase, CoordinatesOutOfBounds, BadInsertion, TooLong}
use Rattle.definition.specs.declared.Refusal.TheVariants.{BadAllele, NoRoom, BadTables, ExonNotFoundForStart, ExonNotFoundForEnd}
use Rattle.definition.specs.declared.Refusal.TheVariants.{ExonIntronBoundary, UtrExonBoundary, VariantSpanOutsideSequenceBounds}
use Rattle.definition.specs.Answer.{class_number}
use Rattle.definition.specs.Verdict.{Verdict, refused, answered}
use Rattle.definition.specs.declared.Answered.{Answered}
use Rattle.std.specs.Prelude.{Err, Ok, Result}

-- the number of each row of the refusals (docs/RULES.md); 11 is reserved
abbrev pub refusal_number : Refusal → ℕ
refusal_number BadCode = 1
refusal_number BadWindow = 2
refusal_number BadTarget = 3
refusal_number BadBase = 4
refusal_number CoordinatesOutOfBounds = 5
refusal_number BadInsertion = 6
refusal_number TooLong = 7
refusal_number BadAllele = 8
refusal_number NoRoom = 9
refusal_number BadTables = 10
refusal_number ExonNotFoundForStart = 12
refusal_number ExonNotFoundForEnd = 13
refusal_number ExonIntronBoundary = 14
refusal_number UtrExonBoundary = 15
refusal_number VariantSpanOutsideSequenceBounds = 16

-- the refusal's number or 0, and the numbers of an answer or 0; the two buffers as they are left
pub record Reply : Type 0 where
  pub refusal : ℕ
  pub class : ℕ
  pub start : ℕ
  pub end : ℕ
  pub probes : ℕ
  pub reference_size : ℕ
  pub alternative_size : ℕ
  pub reference_buffer : List ℕ
  pub alternative_buffer : List ℕ

-- an allele is written from byte 0, and the bytes after it are unchanged
unfoldable pub written : List ℕ → List ℕ → List ℕ
written allele buffer = allele ++ drop (length allele) buffer

unfoldable pub reply : List ℕ → List ℕ → Verdict → Reply
reply reference_buffer alternative_buffer (refused x) = record {
  refusal = refusal_number x;
  class = 0;
  start = 0;
  end = 0;
  probes = 0;
  reference_size = 0;
  alternative_size = 0;
  reference_buffer = reference_buffer;
  alternative_buffer = alternative_buffer;
}
reply reference_buffer alternative_buffer (answered a) = record {
  refusal = 0;
  class = class_number a.what.class;
  start = a.what.start;
  end = a.what.end;
  probes = a.probes;
  reference_size = length a.what.reference;
  alternative_size = length a.what.alternative;
  reference_buffer = written a.what.reference reference_buffer;
  alternative_buffer = written a.what.alternative alternative_buffer;
}

-- what the code hands on of a verdict: its numbers, and the alleles that it lays at the front of the lent buffers, none for a refusal
unfoldable pub outcome_of : Verdict → Result Answered Refusal
outcome_of (refused x) = Err x
outcome_of (answered a) =
    Ok
    (record {
      class = a.what.class;
      start = record { 0 = a.what.start };
      end = record { 0 = a.what.end };
      probes = a.probes;
      reference_size = length a.what.reference;
      alternative_size = length a.what.alternative;
    })

unfoldable pub reference_out : Verdict → List ℕ
reference_out (refused x) = []
reference_out (answered a) = a.what.reference

unfoldable pub alternative_out : Verdict → List ℕ
alternative_out (refused x) = []
alternative_out (answered a) = a.what.alternative

-- a verdict is met by what comes back and by both buffers, as they were and as they are
pub record Met (v : Verdict) (r : Result Answered Refusal) (reference reference' alternative alternative' : List ℕ) : Type 0 where
  pub numbers : r ≡ outcome_of v
  pub reference_buffer : reference' ≡ written (reference_out v) reference
  pub alternative_buffer : alternative' ≡ written (alternative_out v) alternative
