-- The marked rows of the bench (docs/RULES.md) are one theorem, the rows that they leave open a second. Assumes nothing.
use mathlib.Core.Path.{refl}
use Rattle.definition.specs.Bases.{is_base, complement, reverse_complement}
use Rattle.definition.specs.Prefix.{lcs}
use Rattle.definition.specs.Change.{spelled, altered, reference_of, trimmed_front, trimmed_end, trimmed_by, trimmed}
use Rattle.definition.specs.Request.{kind_of, edit_of, direction_of, bound_of, start_of, end_of, change_of}
use Rattle.definition.specs.Piece.{little, bound_in_target, bounds_in_order, tables_hold, pieces_of, whole_piece, cut_at, exon_piece, transcript_piece, piece_for}
use Rattle.definition.specs.Place.{right_edge, furthest, is_pure, place_of, stopped_by_base, probes_of}
use Rattle.definition.specs.Answer.{copy_beside, copy_start, named_insertion, is_inversion, named_replacement, named}
use Rattle.definition.specs.Answer.{replaced_or_unchanged, first_base_rule, has_last_base_rule, last_base_rule, leaves_target}
use Rattle.definition.specs.Bench.{AnsweredSo, bench_rows, further_rows}
use Rattle.definition.specs.Verdict.{verdict, read_alternative, bad_code, bad_window, bad_target, bad_base, out_of_bounds, bad_insertion}
use Rattle.definition.specs.Verdict.{too_long, bad_allele, no_room, bad_tables, target_rows, change_rows, request_rows, rows, replaced_at_once}
use Rattle.definition.specs.Verdict.{answered_at_once, piece_of, named_at, normal_at, normal, answer_at_once, answer_moved, answered_or16}
use Rattle.definition.specs.Verdict.{moved_in, after_piece, after_shortcuts, answer_in, refused_or}

pub bench : AnsweredSo bench_rows
unfolding bench_rows is_base complement reverse_complement lcs spelled altered reference_of trimmed_front trimmed_end trimmed_by trimmed kind_of edit_of
    direction_of bound_of start_of end_of change_of little bound_in_target bounds_in_order tables_hold pieces_of whole_piece cut_at exon_piece transcript_piece
    piece_for right_edge furthest is_pure place_of stopped_by_base probes_of copy_beside copy_start named_insertion is_inversion named_replacement named
    replaced_or_unchanged first_base_rule has_last_base_rule last_base_rule leaves_target verdict read_alternative bad_code bad_window bad_target bad_base
    out_of_bounds bad_insertion too_long bad_allele no_room bad_tables target_rows change_rows request_rows rows replaced_at_once answered_at_once piece_of named_at
    normal_at normal answer_at_once answer_moved answered_or16 moved_in after_piece after_shortcuts answer_in refused_or
bench = refl

pub bench-further : AnsweredSo further_rows
unfolding further_rows is_base complement reverse_complement lcs spelled altered reference_of trimmed_front trimmed_end trimmed_by trimmed kind_of edit_of
    direction_of bound_of start_of end_of change_of little bound_in_target bounds_in_order tables_hold pieces_of whole_piece cut_at exon_piece transcript_piece
    piece_for right_edge furthest is_pure place_of stopped_by_base probes_of copy_beside copy_start named_insertion is_inversion named_replacement named
    replaced_or_unchanged first_base_rule has_last_base_rule last_base_rule leaves_target verdict read_alternative bad_code bad_window bad_target bad_base
    out_of_bounds bad_insertion too_long bad_allele no_room bad_tables target_rows change_rows request_rows rows replaced_at_once answered_at_once piece_of named_at
    normal_at normal answer_at_once answer_moved answered_or16 moved_in after_piece after_shortcuts answer_in refused_or
bench-further = refl
