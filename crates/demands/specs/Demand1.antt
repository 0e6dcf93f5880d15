-- Demand 1. Any request gets an answer or one of the refusals of docs/RULES.md, exactly when its row says so and no earlier row does; a refusal returns its
-- number and zeros and touches no buffer. That the demand is met is shown in proofs/Refusals. Assumes nothing.
use Rattle.std.specs.Prelude.{◌≡◌, ◌↔◌, Bool, true, false, not, ◌&&◌, ◌||◌, List, [], ◌∷◌, ◌++◌, ℕ, ◌-◌, ◌+◌, eqb, ltb}
use Rattle.std.specs.Prelude.{Option, None, Some}
use Rattle.std.proofs.Math.Seq.{slice}
use Rattle.definition.specs.declared.Kind.{Kind}
use Rattle.definition.specs.declared.Kind.TheVariants.{Open, Transcript, Crossing}
use Rattle.definition.specs.declared.Bound.{Bound}
use Rattle.definition.specs.declared.Bound.TheVariants.{Absent, At, Negative}
use Rattle.definition.specs.declared.Refusal.{Refusal}
use Rattle.definition.specs.declared.Refusal.TheVariants.{ExonNotFoundForStart, ExonNotFoundForEnd, ExonIntronBoundary}
use Rattle.definition.specs.declared.Refusal.TheVariants.{UtrExonBoundary, VariantSpanOutsideSequenceBounds}
use Rattle.definition.specs.declared.Exon.{Exon}
use Rattle.definition.specs.Change.{altered, trimmed}
use Rattle.definition.specs.Request.{Request, kind_of, edit_of, direction_of, bound_of, start_of, end_of, change_of}
use Rattle.definition.specs.Piece.{pieces_of, exon_holding}
use Rattle.definition.specs.Place.{place_of}
use Rattle.definition.specs.Answer.{Named, leaves_target}
use Rattle.definition.specs.Verdict.{Row, rows, verdict, refused, answered_at_once, piece_of}
use Rattle.definition.specs.Reply.{reply, refusal_number}
use Rattle.definition.specs.declared.Piece.{Piece}
use Rattle.std.specs.Prelude.{Err, None, Ok, Option, Result, Some}

-- rows 12 and 13: no exon was found
unfoldable pub missing : Option Exon → Bool
missing None = true
missing (Some x) = false

-- row 14: the two exons differ
unfoldable pub differ : Option Exon → Option Exon → Bool
differ (Some x) (Some y) = not (eqb x.start.0 y.start.0 && eqb x.end.0 y.end.0)
differ (Some x) None = false
differ None y = false

-- row 15: the range has bases on both sides of the bound
unfoldable pub on_both_sides : Bound → ℕ → ℕ → Bool
on_both_sides Absent start end = false
on_both_sides (At c) start end = ltb start c && ltb c end
on_both_sides Negative start end = false

-- rows 12 to 15 are for transcripts not crossing
unfoldable pub piece_rows : Kind → List Exon → Bound → Bound → ℕ → ℕ → List Row
piece_rows Open exons cds_start cds_end start end = []
piece_rows Transcript exons cds_start cds_end start end =
    record { refusal = ExonNotFoundForStart; given = missing (exon_holding start exons) }
    ∷ record { refusal = ExonNotFoundForEnd; given = missing (exon_holding (end - 1) exons) }
    ∷ record { refusal = ExonIntronBoundary; given = differ (exon_holding start exons) (exon_holding (end - 1) exons) }
    ∷ record { refusal = UtrExonBoundary; given = on_both_sides cds_start start end || on_both_sides cds_end start end }
    ∷ []
piece_rows Crossing exons cds_start cds_end start end = []

-- row 16, asked of the change at its final place in its piece
unfoldable pub span_rows : Request → Result Piece Refusal → List Row
span_rows r (Err x) = []
span_rows r (Ok p) =
    let direction = direction_of r.direction_code in
    let after = altered r.target (change_of r) in
    let t = trimmed direction r.target (change_of r) in
    let q = place_of direction p r.target after t in
    record {
      refusal = VariantSpanOutsideSequenceBounds;
      given = leaves_target direction p r.target q (slice q (q + t.reference_size) r.target) (slice q (q + t.alternative_size) after);
    }
    ∷ []

-- the two requests that are answered between rows 10 and 12 are asked no later row
unfoldable pub unless_at_once : Option Named → List Row → List Row
unless_at_once None later = later
unless_at_once (Some n) later = []

-- the table of refusals for a request: rows 1 to 10, then 12 to 16
unfoldable pub table : Request → List Row
table r =
    rows r
    ++ unless_at_once (answered_at_once (edit_of r.edit_code) r)
    (piece_rows (kind_of r.kind_code) (pieces_of r.exon_bytes) (bound_of r.cds_start) (bound_of r.cds_end) (start_of r) (end_of r) ++ span_rows r (piece_of r))

abbrev pub none_given : List Row → Bool
none_given [] = true
none_given (x ∷ xs) = not x.given && none_given xs

-- the row of refusal x says so, and no earlier row does
pub record FirstSaid (x : Refusal) (xs : List Row) : Type 0 where
  pub earlier : List Row
  pub later : List Row
  pub split : xs ≡ earlier ++ (record { refusal = x; given = true } ∷ later)
  pub silent : none_given earlier ≡ true

pub record Demand1 : Type 0 where
  -- each refusal is given exactly if its row says so and no earlier row does
  pub exactly : (r : Request) (x : Refusal) → (verdict r ≡ refused x) ↔ FirstSaid x (table r)
  -- its reply is its number, zeros, and both buffers as they were
  pub untouched : (r : Request) (x : Refusal) (reference alternative : List ℕ) → verdict r ≡ refused x
      → reply reference alternative (verdict r)
      ≡ record {
        refusal = refusal_number x;
        class = 0;
        start = 0;
        end = 0;
        probes = 0;
        reference_size = 0;
        alternative_size = 0;
        reference_buffer = reference;
        alternative_buffer = alternative;
      }
