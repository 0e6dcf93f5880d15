-- Demand 2. What an accepted answer is: the altered sequence is kept, a trimmed insertion or deletion moves to the furthest equivalent place
-- inside piece and target, class and probes follow the rules. That the demand is met is shown in proofs/Answers. Assumes nothing.
use Rattle.std.specs.Prelude.{◌≡◌, ◌⊎◌, true, false, List, ℕ, ◌+◌}
use Rattle.std.specs.Prelude.{Some}
use Rattle.std.proofs.Math.Seq.{slice}
use Rattle.definition.specs.declared.Direction.{Direction}
use Rattle.definition.specs.declared.Piece.{Piece}
use Rattle.definition.specs.Change.{splice, Trimmed, trimmed}
use Rattle.definition.specs.Request.{Request, kind_of, edit_of, direction_of, change_of, altered_by}
use Rattle.definition.specs.Place.{Equivalent, Inside, NotFurther, is_pure, probes_of}
use Rattle.definition.specs.Answer.{named, first_base_rule, last_base_rule, denoted}
use Rattle.definition.specs.Verdict.{Answer, answered, verdict, answered_at_once, piece_of}
use Rattle.std.specs.Prelude.{Ok}

-- a trimmed change at its final place q
pub record Settled (direction : Direction) (piece : Piece) (target after : List ℕ) (t : Trimmed) (q : ℕ) : Type 0 where
  -- it lies inside piece and target ..
  pub inside : Inside piece target t.reference_size q
  -- .. and its alleles there turn the target into the altered sequence
  pub kept : splice target q (q + t.reference_size) (slice q (q + t.alternative_size) after) ≡ after
  -- with an allele empty, no equivalent place inside is further that way
  pub furthest : is_pure t ≡ true → (other : ℕ) → Equivalent target after t.reference_size other → Inside piece target t.reference_size other
      → NotFurther direction other q
  -- with none empty, it stays where trimming left it
  pub stays : is_pure t ≡ false → q ≡ t.start

-- an answer to a change that was trimmed and moved in its piece
pub record Moved (r : Request) (a : Answer) : Type 0 where
  pub piece : Piece
  pub place : ℕ
  pub found : piece_of r ≡ Ok piece
  pub settled : Settled (direction_of r.direction_code) piece r.target (altered_by r) (trimmed (direction_of r.direction_code) r.target (change_of r)) place
  -- class, range and alleles are those of the change at that place, after both end rules
  pub what : a.what
      ≡ last_base_rule (kind_of r.kind_code) r.target
      (first_base_rule r.target
      (named (direction_of r.direction_code) piece r.target place
      (slice place (place + (trimmed (direction_of r.direction_code) r.target (change_of r)).reference_size) r.target)
      (slice place (place + (trimmed (direction_of r.direction_code) r.target (change_of r)).alternative_size) (altered_by r))))
  -- the distance moved, and 1 if a differing base stopped it
  pub probes : a.probes ≡ probes_of (direction_of r.direction_code) piece r.target (trimmed (direction_of r.direction_code) r.target (change_of r)) place

-- an answer given between rows 10 and 12
pub record AtOnce (r : Request) (a : Answer) : Type 0 where
  pub what : answered_at_once (edit_of r.edit_code) r ≡ Some a.what
  pub probes : a.probes ≡ 0

pub record Demand2 : Type 0 where
  -- class, range and alleles of an answer denote the altered sequence
  pub kept : (r : Request) (a : Answer) → verdict r ≡ answered a → denoted r.target a.what ≡ altered_by r
  -- and they are those of one of two ways to an answer
  pub ways : (r : Request) (a : Answer) → verdict r ≡ answered a → AtOnce r a ⊎ Moved r a
