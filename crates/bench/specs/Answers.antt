-- What came back of a request, in words. Assumes nothing.
use Rattle.std.specs.Prelude.{ℕ, List, ◌∷◌, ◌++◌}
use Rattle.definition.specs.declared.Answered.{Answered}
use Rattle.asking.specs.Digits.{decimal_text}
use Rattle.asking.specs.Values.{class_name, range_text, allele_text}
use Rattle.asking.specs.Refusals.{refusal_text}
use Rattle.definition.specs.declared.Refusal.{Refusal}
use Rattle.std.specs.Prelude.{Err, Ok, Result}

-- both alleles, a space before each
abbrev pub alleles_text : Answered → List ℕ → List ℕ → List ℕ
alleles_text answer reference alternative =
    32 ∷ allele_text reference answer.reference_size ++ 32 ∷ allele_text alternative answer.alternative_size

-- class, range, both alleles and probes, with a space between
abbrev pub answer_text : Answered → List ℕ → List ℕ → List ℕ
answer_text answer reference alternative =
    class_name answer.class
    ++ 32 ∷ range_text answer.start.0 answer.end.0
    ++ alleles_text answer reference alternative
    ++ 32 ∷ decimal_text answer.probes

-- an outcome on one line
abbrev pub outcome_text : Result Answered Refusal → List ℕ → List ℕ → List ℕ
outcome_text (Ok answer) reference alternative = answer_text answer reference alternative
outcome_text (Err refusal) reference alternative = refusal_text refusal
