-- What words come to, by each thing that they need; and what comes back of it: a problem leaves both buffers, a verdict is met. Assumes nothing.
use Prim.Native.Nat.{ℕ}
use mathlib.Core.Path.{◌≡◌, refl, sym, ap, ◌∙◌}
use mathlib.Core.List.{List}
use lib.ListN.{length}
use lib.IntN.{ℤ}
use Rattle.definition.specs.Verdict.{verdict}
use Rattle.definition.specs.Reply.{Met, written}
use Rattle.normalizer.specs.Asked.{asked}
use Rattle.asking.specs.Text.{part_of}
use Rattle.std.specs.Prelude.{Some, None, Result, Ok, Err}
use Rattle.asking.specs.declared.exon_lists.BadExons as exon-lists
use Rattle.asking.specs.declared.requests.Broken.{Broken}
use Rattle.asking.specs.declared.requests.Request.{Request}
use Rattle.asking.specs.Options.{request_of}
use Rattle.asking.specs.Request.{given}
use Rattle.asking.specs.declared.problems.Problem.{Problem}
use Rattle.asking.specs.declared.problems.Problem.TheVariants.{Wrong, Unread as UnreadTarget, NoEdit, NoRange}
use Rattle.asking.specs.declared.problems.Unread.{Unread}
use Rattle.asking.specs.Sources.{Source, source_of, target_of, laid, letters_in}
use Rattle.asking.proofs.Fronts.{front}
use Rattle.asking.specs.Handed.{position_of, bound_number, handed_to}
use Rattle.asking.specs.Reached.{of_exons, exons_at, Came, on_target, on_range, on_words, Answers}
use Rattle.definition.specs.declared.Answered.{Answered}
use Rattle.definition.specs.declared.Refusal.{Refusal}
use Rattle.std.specs.Prelude.{Result}

module _ {came : Came} {reference alternative : List ℕ} where
  pub stops : {problem : Problem} → came ≡ Err problem → Answers came (Err problem) reference reference alternative alternative
  unfolding written
  stops e = rw e (record { reached = refl; reference_buffer = refl; alternative_buffer = refl })

  pub goes_on : {came' : Came} {r : Result (Result Answered Refusal) Problem} {reference' alternative' : List ℕ} → came ≡ came'
      → Answers came' r reference reference' alternative alternative'
      → Answers came r reference reference' alternative alternative'
  goes_on e answered = rw e answered

-- what a request comes to on its target, by what its exons come to
module _ (text : List ℕ) (request : Request) (edit : ℕ) (range : ℕ × ℕ) (letters : List ℕ) (reference_room alternative_room : ℕ)
    {exons : Result ℕ exon-lists.BadExons} (are : exons ≡ (exons_at text request.words.exons).came) where
  pub bad-exons : {bad : exon-lists.BadExons} → exons ≡ Err bad
      → on_target text request edit range letters reference_room alternative_room ≡ Err (of_exons bad)
  unfolding on_target
  bad-exons e = rw (sym are ∙ e)

  -- the normalizer is handed what the request names
  pub with-table : {size : ℕ} {table word : List ℕ} {cds_start cds_end first last : ℤ} {outcome : Result Answered Refusal}
      {reference reference' alternative alternative' : List ℕ}
      → exons ≡ Ok size → table ≡ (exons_at text request.words.exons).bytes
      → cds_start ≡ bound_number request.bounds.start → cds_end ≡ bound_number request.bounds.end
      → first ≡ position_of range.0 → last ≡ position_of range.1 → word ≡ given text request.words.alternative
      → Met
      (verdict (asked letters request.codes.kind table cds_start cds_end first last edit word request.codes.direction
      request.codes.window reference_room alternative_room))
      outcome reference reference' alternative alternative'
      → Answers (on_target text request edit range letters reference_room alternative_room) (Ok outcome) reference reference' alternative alternative'
  unfolding on_target handed_to
  with-table e is-table is-start is-end is-first is_last is_word met =
      let m = rw (is-table, is-start, is-end, is-first, is_last, is_word) at met in
      rw (sym are ∙ e) (record { reached = ap Ok m.numbers; reference_buffer = m.reference_buffer; alternative_buffer = m.alternative_buffer })

-- and on its range, by what its target comes to
module _ (text : List ℕ) (request : Request) (edit : ℕ) (range : ℕ × ℕ) (file : Source) (reference_room alternative_room : ℕ)
    (room : List ℕ) (long : length room ≡ 65536)
    {read : Result ℕ Unread} (is : read ≡ target_of (length room) (source_of text request.words.target request.words.file file)) where
  pub unread : {why : Unread} → read ≡ Err why
      → on_range text request edit range file reference_room alternative_room ≡ Err (UnreadTarget why)
  unfolding on_range
  unread e = rw (sym (rw long at is) ∙ e)

  -- its letters stand at the front of the room, and the request goes on with them
  pub with-letters : {room' part : List ℕ} {size : ℕ} → read ≡ Ok size
      → room' ≡ laid (source_of text request.words.target request.words.file file) room → part ≡ part_of room' 0 size
      → on_range text request edit range file reference_room alternative_room ≡ on_target text request edit range part reference_room alternative_room
  unfolding on_range
  with-letters {room'} {part} {size} e is-laid is-part =
      let source = source_of text request.words.target request.words.file file in
      let letters : part ≡ letters_in source = is-part ∙ ap (λ (held : List ℕ). part_of held 0 size) is-laid ∙ front source room is e in
      rw (sym (rw long at is) ∙ e, letters)

-- and words, by the request that they make
module _ (text : List ℕ) (file : Source) (reference_room alternative_room : ℕ)
    {asked : Result Request Broken} (is : asked ≡ request_of text) where
  pub broken : {what : Broken} → asked ≡ Err what → on_words text file reference_room alternative_room ≡ Err (Wrong what.fault what.at)
  unfolding on_words
  broken e = rw (sym is ∙ e)

  module _ {request : Request} (whole : asked ≡ Ok request) where
    pub no-edit : request.codes.edit ≡ None → on_words text file reference_room alternative_room ≡ Err NoEdit
    unfolding on_words
    no-edit e = rw (sym is ∙ whole, e)

    module _ {edit : ℕ} (edits : request.codes.edit ≡ Some edit) where
      pub no-range : request.range ≡ None → on_words text file reference_room alternative_room ≡ Err NoRange
      unfolding on_words
      no-range e = rw (sym is ∙ whole, edits, e)

      pub with-range : {range : ℕ × ℕ} → request.range ≡ Some range
          → on_words text file reference_room alternative_room ≡ on_range text request edit range file reference_room alternative_room
      unfolding on_words
      with-range e = rw (sym is ∙ whole, edits, e)
