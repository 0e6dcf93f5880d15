-- The whole: what is answered to a request. Rows 1 to 10, the two requests answered at once, rows 12 to 15, the answer, row 16.
-- The window decides nothing but row 2. Assumes nothing.
use Rattle.definition.specs.declared.Bound.{Bound}
use Rattle.std.specs.Prelude.{ℕ, ◌+◌, ◌-◌, Bool, false, cond, not, ◌&&◌, ◌||◌, List, [], ◌∷◌, ◌++◌, pos, eqb, ltb, length}
use Rattle.std.specs.Prelude.{Option, None, Some}
use Rattle.std.specs.Int.Signed.{lt_z, le_z}
use Rattle.std.proofs.Math.Seq.{slice}
use Rattle.definition.specs.declared.Kind.{Kind}
use Rattle.definition.specs.declared.Kind.TheVariants.{Open, Transcript, Crossing}
use Rattle.definition.specs.declared.Edit.{Edit}
use Rattle.definition.specs.declared.Edit.TheVariants.{Insert, Duplicate, Delete, Replace, Invert}
use Rattle.definition.specs.declared.Direction.{Direction}
use Rattle.definition.specs.declared.Refusal.{Refusal}
use Rattle.definition.specs.declared.Refusal.TheVariants.{BadCode, BadWindow, BadTarget, BadBase, CoordinatesOutOfBounds, BadInsertion, TooLong}
use Rattle.definition.specs.declared.Refusal.TheVariants.{BadAllele, NoRoom, BadTables, VariantSpanOutsideSequenceBounds}
use Rattle.definition.specs.declared.Class.TheVariants.{Replacement, Unchanged}
use Rattle.definition.specs.declared.Piece.{Piece}
use Rattle.definition.specs.Bases.{all_bases, same_bases}
use Rattle.definition.specs.Limits.{longest_window, longest_target, longest_allele, answer_room}
use Rattle.definition.specs.Change.{Change, Trimmed, altered, trimmed}
use Rattle.definition.specs.Request.{Request, kind_of, edit_of, direction_of, bound_of, start_of, end_of, change_of}
use Rattle.definition.specs.Piece.{piece_for, tables_hold}
use Rattle.definition.specs.Place.{place_of, probes_of}
use Rattle.definition.specs.Answer.{Named, named, first_base_rule, last_base_rule, leaves_target}
use Rattle.std.specs.Prelude.{Err, Ok, Result}

-- an accepted request's answer: what is named, and the probes
pub record Answer : Type 0 where
  pub what : Named
  pub probes : ℕ

pub data Verdict : Type 0 where
  refused : Refusal → Verdict
  answered : Answer → Verdict

-- only insertion and replacement read the alternative
unfoldable pub read_alternative : Edit → List ℕ → List ℕ
read_alternative Insert alt = alt
read_alternative Duplicate alt = []
read_alternative Delete alt = []
read_alternative Replace alt = alt
read_alternative Invert alt = []

-- Row 1
abbrev pub unlisted : ℕ → ℕ → ℕ → Bool
unlisted kind edit direction = ltb 2 kind || ltb 4 edit || ltb 1 direction

unfoldable pub bad_code : Request → Bool
bad_code r = unlisted r.kind_code r.edit_code r.direction_code

-- Row 2
abbrev pub window_outside : ℕ → Bool
window_outside window = eqb window 0 || ltb longest_window window

unfoldable pub bad_window : Request → Bool
bad_window r = window_outside r.window

-- Rows 3 and 4
abbrev pub size_outside : ℕ → Bool
size_outside size = eqb size 0 || ltb longest_target size

unfoldable pub bad_target : Request → Bool
bad_target r = size_outside (length r.target)

unfoldable pub bad_base : Request → Bool
bad_base r = not (all_bases r.target)

-- Row 5
unfoldable pub out_of_bounds : Request → Bool
out_of_bounds r = lt_z r.range_start (pos 0) || le_z r.range_end r.range_start || lt_z (pos (length r.target)) r.range_end

-- Row 6
abbrev pub misfits : Edit → ℕ → ℕ → List ℕ → Bool
misfits Insert start end alternative = not (eqb end (start + 2)) || eqb (length alternative) 0
misfits Duplicate start end alternative = false
misfits Delete start end alternative = false
misfits Replace start end alternative = false
misfits Invert start end alternative = false

unfoldable pub bad_insertion : Edit → Request → Bool
bad_insertion edit r = misfits edit (start_of r) (end_of r) r.alternative

-- Rows 7 and 8
abbrev pub exceeds : Edit → ℕ → ℕ → List ℕ → Bool
exceeds edit start end alternative = ltb longest_allele (end - start) || ltb longest_allele (length (read_alternative edit alternative))

unfoldable pub too_long : Request → Bool
too_long r = exceeds (edit_of r.edit_code) (start_of r) (end_of r) r.alternative

unfoldable pub bad_allele : Request → Bool
bad_allele r = not (all_bases (read_alternative (edit_of r.edit_code) r.alternative))

-- Row 9
abbrev pub cramped : ℕ → ℕ → Bool
cramped reference alternative = ltb reference answer_room || ltb alternative answer_room

unfoldable pub no_room : Request → Bool
no_room r = cramped r.reference_room r.alternative_room

-- Row 10
abbrev pub tables_broken : Kind → List ℕ → Bound → Bound → ℕ → Bool
tables_broken Open bytes cds_start cds_end size = false
tables_broken Transcript bytes cds_start cds_end size = not (tables_hold bytes cds_start cds_end size)
tables_broken Crossing bytes cds_start cds_end size = false

unfoldable pub bad_tables : Kind → Request → Bool
bad_tables kind r = tables_broken kind r.exon_bytes (bound_of r.cds_start) (bound_of r.cds_end) (length r.target)

-- a row of the table of refusals, and whether it is given if no row before it is
pub record Row : Type 0 where
  pub refusal : Refusal
  pub given : Bool

-- Rows 1 to 4, which speak of the codes, the window and the target, and rows 5 to 9, which speak of the change asked for
unfoldable pub target_rows : Request → List Row
target_rows r =
    record { refusal = BadCode; given = bad_code r }
    ∷ record { refusal = BadWindow; given = bad_window r }
    ∷ record { refusal = BadTarget; given = bad_target r }
    ∷ record { refusal = BadBase; given = bad_base r }
    ∷ []

unfoldable pub change_rows : Request → List Row
change_rows r =
    record { refusal = CoordinatesOutOfBounds; given = out_of_bounds r }
    ∷ record { refusal = BadInsertion; given = bad_insertion (edit_of r.edit_code) r }
    ∷ record { refusal = TooLong; given = too_long r }
    ∷ record { refusal = BadAllele; given = bad_allele r }
    ∷ record { refusal = NoRoom; given = no_room r }
    ∷ []

unfoldable pub request_rows : Request → List Row
request_rows r = target_rows r ++ change_rows r

unfoldable pub rows : Request → List Row
rows r = request_rows r ++ (record { refusal = BadTables; given = bad_tables (kind_of r.kind_code) r } ∷ [])

abbrev pub first_given : List Row → Option Refusal
first_given [] = None
first_given (x ∷ xs) = cond x.given (Some x.refusal) (first_given xs)

-- the two requests that are answered before a piece is looked for: a replacement by the same bases, and one base by one other
unfoldable pub replaced_at_once : ℕ → ℕ → List ℕ → List ℕ → Option Named
replaced_at_once start end ref alt =
    cond (same_bases ref alt) (Some (record { class = Unchanged; start = start + 1; end = end; reference = ref; alternative = alt }))
    (cond (eqb (length ref) 1 && eqb (length alt) 1)
    (Some (record { class = Replacement; start = start + 1; end = start + 1; reference = ref; alternative = alt }))
    None)

abbrev pub shortcut : Edit → List ℕ → ℕ → ℕ → List ℕ → Option Named
shortcut Insert target start end alternative = None
shortcut Duplicate target start end alternative = None
shortcut Delete target start end alternative = None
shortcut Replace target start end alternative = replaced_at_once start end (slice start end target) alternative
shortcut Invert target start end alternative = None

unfoldable pub answered_at_once : Edit → Request → Option Named
answered_at_once edit r = shortcut edit r.target (start_of r) (end_of r) r.alternative

-- the piece that a request's range lies in, or rows 12 to 15
unfoldable pub piece_of : Request → Result Piece Refusal
piece_of r = piece_for (kind_of r.kind_code) r.exon_bytes (bound_of r.cds_start) (bound_of r.cds_end) (start_of r) (end_of r)

-- the change at its final place q, with its alleles: named, then the end rules; row 16 before them
unfoldable pub named_at : Direction → Kind → Piece → List ℕ → ℕ → List ℕ → List ℕ → Option Named
named_at direction kind piece target q ref alt =
    cond (leaves_target direction piece target q ref alt) None
    (Some (last_base_rule kind target (first_base_rule target (named direction piece target q ref alt))))

-- the normal change: the alleles of `after` against the target at the final place
unfoldable pub normal_at : Direction → Kind → Piece → List ℕ → List ℕ → ℕ → ℕ → ℕ → Option Named
normal_at direction kind piece target after q k m =
    named_at direction kind piece target q (slice q (q + k) target) (slice q (q + m) after)

unfoldable pub normal : Direction → Kind → Piece → List ℕ → List ℕ → Trimmed → Option Named
normal direction kind piece target after t =
    normal_at direction kind piece target after (place_of direction piece target after t) t.reference_size t.alternative_size

-- what is reported besides: of a request answered at once, and of a change that was moved
unfoldable pub answer_at_once : Named → Answer
answer_at_once n = record { what = n; probes = 0 }

unfoldable pub answer_moved : Direction → Piece → List ℕ → List ℕ → Trimmed → Named → Answer
answer_moved direction piece target after t n =
    record { what = n; probes = probes_of direction piece target t (place_of direction piece target after t) }

unfoldable pub answered_or16 : (Named → Answer) → Option Named → Verdict
answered_or16 report None = refused VariantSpanOutsideSequenceBounds
answered_or16 report (Some n) = answered (report n)

unfoldable pub moved_in : Direction → Kind → Piece → List ℕ → Change → Verdict
moved_in direction kind piece target c =
    let t = trimmed direction target c in
    let after = altered target c in
    answered_or16 (answer_moved direction piece target after t) (normal direction kind piece target after t)

unfoldable pub after_piece : Direction → Kind → List ℕ → Change → Result Piece Refusal → Verdict
after_piece direction kind target c (Err x) = refused x
after_piece direction kind target c (Ok p) = moved_in direction kind p target c

unfoldable pub after_shortcuts : Direction → Kind → List ℕ → Change → Result Piece Refusal → Option Named → Verdict
after_shortcuts direction kind target c found (Some n) = answered (answer_at_once n)
after_shortcuts direction kind target c found None = after_piece direction kind target c found

-- what a request that passes the rows is answered, with the piece that was found for it
unfoldable pub answer_in : Request → Result Piece Refusal → Verdict
answer_in r found =
    after_shortcuts (direction_of r.direction_code) (kind_of r.kind_code) r.target (change_of r) found (answered_at_once (edit_of r.edit_code) r)

unfoldable pub refused_or : Option Refusal → Verdict → Verdict
refused_or None v = v
refused_or (Some x) v = refused x

unfoldable pub verdict : Request → Verdict
verdict r = refused_or (first_given (rows r)) (answer_in r (piece_of r))
