-- What the words of a command line reach: the definition's verdict on the request that they make, or a problem. Assumes nothing.
use Rattle.std.specs.Prelude.{ℕ, ◌≡◌, List, [], Option, Some, None, Result, Ok, Err}
use Rattle.definition.specs.Request as definition
use Rattle.definition.specs.Verdict.{verdict}
use Rattle.definition.specs.Reply.{outcome_of, reference_out, alternative_out, written}
use Rattle.asking.specs.LinesRules.{word_at}
use Rattle.asking.specs.declared.exon_lists.BadExons as exon-lists
use Rattle.asking.specs.declared.exon_lists.BadExons.TheVariants.{BadPair, TooMany}
use Rattle.asking.specs.declared.requests.Broken.{Broken}
use Rattle.asking.specs.declared.requests.Request.{Request}
use Rattle.asking.specs.Exons.{Pairs, pairs_of}
use Rattle.asking.specs.Options.{request_of}
use Rattle.asking.specs.declared.problems.Problem.{Problem}
use Rattle.asking.specs.declared.problems.Problem.TheVariants.{Wrong, Unread as UnreadTarget, NoEdit, NoRange, BadExons, TooManyExons}
use Rattle.asking.specs.declared.problems.Unread.{Unread}
use Rattle.asking.specs.Sources.{Source, source_of, target_of, letters_in}
use Rattle.asking.specs.Handed.{handed_to}
use Rattle.definition.specs.declared.Answered.{Answered}
use Rattle.definition.specs.declared.Refusal.{Refusal}
use Rattle.std.specs.Prelude.{Result}

-- the problem of a list of exons that is no table
abbrev pub of_exons : exon-lists.BadExons → Problem
of_exons BadPair = BadExons
of_exons TooMany = TooManyExons

-- what words come to: a request that is handed to the normalizer, or a problem
abbrev pub Came : Type 0
Came = Result definition.Request Problem

-- the exons of a word: an empty table where none is given
unfoldable pub exons_at : List ℕ → Option ℕ → Pairs
exons_at text None = record { came = Ok 0; bytes = [] }
exons_at text (Some at) = pairs_of (word_at text at)

-- a request goes on with its exons, if they are pairs
abbrev pub with_exons : Result ℕ exon-lists.BadExons → definition.Request → Came
with_exons (Ok size) request = Ok request
with_exons (Err bad) request = Err (of_exons bad)

module _ (text : List ℕ) (request : Request) (edit : ℕ) (range : ℕ × ℕ) where
  unfoldable pub on_target : List ℕ → ℕ → ℕ → Came
  on_target target reference_room alternative_room =
      let exons = exons_at text request.words.exons in
      with_exons exons.came (handed_to text request edit range target exons.bytes reference_room alternative_room)

  -- and with its target, if that is read
  abbrev pub with_target : Result ℕ Unread → List ℕ → ℕ → ℕ → Came
  with_target (Ok size) letters reference_room alternative_room = on_target letters reference_room alternative_room
  with_target (Err why) letters reference_room alternative_room = Err (UnreadTarget why)

  -- a target has at most 65,536 letters, one more than row 3 accepts, so that it is row 3 that refuses them
  unfoldable pub on_range : Source → ℕ → ℕ → Came
  on_range file reference_room alternative_room =
      let source = source_of text request.words.target request.words.file file in
      with_target (target_of 65536 source) (letters_in source) reference_room alternative_room

-- a request needs an edit and a range
abbrev pub with_range : List ℕ → Request → Option ℕ → Option (ℕ × ℕ) → Source → ℕ → ℕ → Came
with_range text request None range file reference_room alternative_room = Err NoEdit
with_range text request (Some edit) None file reference_room alternative_room = Err NoRange
with_range text request (Some edit) (Some range) file reference_room alternative_room =
    on_range text request edit range file reference_room alternative_room

abbrev pub with_asked : List ℕ → Result Request Broken → Source → ℕ → ℕ → Came
with_asked text (Err broken) file reference_room alternative_room = Err (Wrong broken.fault broken.at)
with_asked text (Ok request) file reference_room alternative_room =
    with_range text request request.codes.edit request.range file reference_room alternative_room

unfoldable pub on_words : List ℕ → Source → ℕ → ℕ → Came
on_words text file reference_room alternative_room = with_asked text (request_of text) file reference_room alternative_room

-- what comes back, and the alleles at the front of both buffers: none where there is a problem
abbrev pub reached_by : Came → Result (Result Answered Refusal) Problem
reached_by (Ok request) = Ok (outcome_of (verdict request))
reached_by (Err problem) = Err problem

abbrev pub reference_by : Came → List ℕ
reference_by (Ok request) = reference_out (verdict request)
reference_by (Err problem) = []

abbrev pub alternative_by : Came → List ℕ
alternative_by (Ok request) = alternative_out (verdict request)
alternative_by (Err problem) = []

pub record Answers (came : Came) (r : Result (Result Answered Refusal) Problem) (reference reference' alternative alternative' : List ℕ) : Type 0 where
  pub reached : r ≡ reached_by came
  pub reference_buffer : reference' ≡ written (reference_by came) reference
  pub alternative_buffer : alternative' ≡ written (alternative_by came) alternative
