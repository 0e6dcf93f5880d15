-- What a replayed record is held to: the definition's reply to the record's request, each part of it beside the stored one. Assumes nothing.
use Rattle.std.specs.Prelude.{ℕ, Bool, ◌&&◌, List, eqb, length, replicate}
use Rattle.std.specs.Borrow.{Bor}
use Rattle.definition.specs.Bases.{same_bases}
use Rattle.definition.specs.Limits.{answer_room}
use Rattle.definition.specs.Request as definition
use Rattle.definition.specs.Verdict.{verdict}
use Rattle.definition.specs.Reply.{Reply, reply, written}
use Rattle.normalizer.specs.Asked.{asked}
use Rattle.normalizer.specs.declared.replies.Answer.{Answer}
use Rattle.recorded.specs.declared.replays.Compared.{Compared}
use Rattle.recorded.specs.Format.{Part, Asked, Kept}
use Rattle.recorded.specs.declared.records.Request.{Request}
use Rattle.recorded.specs.declared.records.Stored.{Stored}

-- each buffer before a request: room for an answer, and no base in it
unfoldable pub filled : List ℕ
filled = replicate answer_room 46

-- a part, a request and an answer as the format has them, of those that are read, whose parts are lent by the file
abbrev pub part_read : Bor (List ℕ) × ℕ → Part
part_read part = record { bytes = part.0.now; to = part.1 }

abbrev pub request_read : Request → Asked
request_read request = record {
  target = request.target.now;
  exons = request.exons.now;
  alternative = request.alternative.now;
  numbers = request.numbers;
  to = request.to;
}

abbrev pub stored_read : Stored → Kept
stored_read stored = record {
  refusal = stored.refusal;
  class = stored.class;
  start = stored.start;
  end = stored.end;
  probes = stored.probes;
  reference = stored.reference.now;
  alternative = stored.alternative.now;
  to = stored.to;
}

-- what a record asks, with both buffers lent
abbrev pub asked_in : Asked → definition.Request
asked_in request =
    let numbers = request.numbers in
    asked request.target numbers.kind request.exons numbers.cds_start numbers.cds_end numbers.start
    numbers.end numbers.edit request.alternative numbers.direction numbers.window answer_room answer_room

-- the definition's reply to a record
abbrev pub reply_to : Asked → Reply
reply_to request = reply filled filled (verdict (asked_in request))

-- a buffer holds an allele of so many bases, and behind it what filled the buffer
unfoldable pub holds_allele : List ℕ → ℕ → List ℕ → Bool
holds_allele buffer size allele = eqb (length allele) size && same_bases buffer (written allele filled)

-- the reply that numbers and both buffers are
abbrev pub reply_of : Answer → List ℕ → List ℕ → Reply
reply_of numbers reference_buffer alternative_buffer = record {
  refusal = numbers.refusal;
  class = numbers.class;
  start = numbers.start;
  end = numbers.end;
  probes = numbers.probes;
  reference_size = numbers.reference_len;
  alternative_size = numbers.alternative_len;
  reference_buffer = reference_buffer;
  alternative_buffer = alternative_buffer;
}

-- the refusal and the class of a reply, and whether both, its range, its probes and both its alleles are the stored ones
abbrev pub compared_with : Kept → Reply → Compared
compared_with stored reply = record {
  refusal = reply.refusal;
  class = reply.class;
  same_verdict = eqb reply.refusal stored.refusal && eqb reply.class stored.class;
  same_range = eqb reply.start stored.start && eqb reply.end stored.end;
  same_probes = eqb reply.probes stored.probes;
  same_alleles =
      holds_allele reply.reference_buffer reply.reference_size stored.reference
      && holds_allele reply.alternative_buffer reply.alternative_size stored.alternative;
}
