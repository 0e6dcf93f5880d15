-- Demand 3, one key. Two accepted requests over one target, with equal tables, kind and direction, any windows, both changing the sequence,
-- both ranges in one piece: their answers agree in class, range and alleles exactly when their altered sequences are equal.
-- That the demand is met is shown in proofs/OneKey. Assumes nothing.
use Rattle.std.specs.Prelude.{◌≡◌, ◌↔◌}
use Rattle.definition.specs.declared.Piece.{Piece}
use Rattle.definition.specs.Request.{Request, altered_by}
use Rattle.definition.specs.Verdict.{Answer, answered, verdict, piece_of}
use Rattle.std.specs.Prelude.{Ok}

-- one target, equal tables, kind and direction. Windows, edits, ranges and alternatives are free
pub record OneSetting (r s : Request) : Type 0 where
  pub target : r.target ≡ s.target
  pub kind : r.kind_code ≡ s.kind_code
  pub exons : r.exon_bytes ≡ s.exon_bytes
  pub cds_start : r.cds_start ≡ s.cds_start
  pub cds_end : r.cds_end ≡ s.cds_end
  pub direction : r.direction_code ≡ s.direction_code

-- one piece holds both ranges
pub record OnePiece (r s : Request) : Type 0 where
  pub piece : Piece
  pub first : piece_of r ≡ Ok piece
  pub second : piece_of s ≡ Ok piece

pub record Demand3 : Type 0 where
  pub one_key : (r s : Request) (a b : Answer) → OneSetting r s → OnePiece r s
      → verdict r ≡ answered a → verdict s ≡ answered b
      → (altered_by r ≡ r.target → ⊥) → (altered_by s ≡ s.target → ⊥)
      → (a.what ≡ b.what) ↔ (altered_by r ≡ altered_by s)
