-- The bench of docs/RULES.md on target CAAATGGTACCA: the rows that it marks, each request beside its answer. Exons and alternatives are written out in
-- bytes; L is 12, the window 20, there is no CDS. Assumes nothing.
use Rattle.std.specs.Prelude.{ℕ, ◌≡◌, List, [], ◌∷◌, map, pos, negsuc}
use Rattle.definition.specs.declared.Refusal.TheVariants.{VariantSpanOutsideSequenceBounds}
use Rattle.definition.specs.declared.Class.{Class}
use Rattle.definition.specs.declared.Class.TheVariants.{Insertion, Duplication, Deletion, Replacement, Inversion, Unchanged}
use Rattle.definition.specs.Limits.{answer_room}
use Rattle.definition.specs.Request.{Request}
use Rattle.definition.specs.Verdict.{Verdict, refused, answered, verdict}

pub record BenchRow : Type 0 where
  pub asked : Request
  pub answer : Verdict

-- what the definition answers to the rows' requests is what the rows say
abbrev pub AnsweredSo : List BenchRow → Type 0
AnsweredSo table = map (λ (row : BenchRow). verdict row.asked) table ≡ map (λ (row : BenchRow). row.answer) table

abbrev pub A : ℕ
A = 65

abbrev pub C : ℕ
C = 67

abbrev pub G : ℕ
G = 71

abbrev pub T : ℕ
T = 84

-- what a row asks: kind and exons, edit, range, alternative, direction
abbrev pub asks : ℕ → List ℕ → ℕ → ℕ → ℕ → List ℕ → ℕ → Request
asks kind exons edit start end alternative direction = record {
  target = C ∷ A ∷ A ∷ A ∷ T ∷ G ∷ G ∷ T ∷ A ∷ C ∷ C ∷ A ∷ [];
  kind_code = kind;
  exon_bytes = exons;
  cds_start = negsuc 0;
  cds_end = negsuc 0;
  range_start = pos start;
  range_end = pos end;
  edit_code = edit;
  alternative = alternative;
  direction_code = direction;
  window = 20;
  reference_room = answer_room;
  alternative_room = answer_room;
}

-- open; one exon 0..12; exons 0..4 and 4..12
abbrev pub on_open : ℕ → ℕ → ℕ → List ℕ → ℕ → Request
on_open = asks 0 []

abbrev pub on_one : ℕ → ℕ → ℕ → List ℕ → ℕ → Request
on_one = asks 1 (0 ∷ 0 ∷ 0 ∷ 0 ∷ 12 ∷ 0 ∷ 0 ∷ 0 ∷ [])

abbrev pub on_two : ℕ → ℕ → ℕ → List ℕ → ℕ → Request
on_two = asks 1 (0 ∷ 0 ∷ 0 ∷ 0 ∷ 4 ∷ 0 ∷ 0 ∷ 0 ∷ 4 ∷ 0 ∷ 0 ∷ 0 ∷ 12 ∷ 0 ∷ 0 ∷ 0 ∷ [])

abbrev pub ins : ℕ
ins = 0

abbrev pub dup : ℕ
dup = 1

abbrev pub del : ℕ
del = 2

abbrev pub rep : ℕ
rep = 3

abbrev pub inv : ℕ
inv = 4

abbrev pub right : ℕ
right = 0

abbrev pub left : ℕ
left = 1

abbrev pub gives : Class → ℕ → ℕ → List ℕ → List ℕ → ℕ → Verdict
gives class start end reference alternative probes =
    answered (record { what = record { class = class; start = start; end = end; reference = reference; alternative = alternative }; probes = probes })

unfoldable pub bench_rows : List BenchRow
bench_rows =
    record { asked = on_open del 1 2 [] right; answer = gives Deletion 4 4 (A ∷ []) [] 3 }
    ∷ record { asked = on_open del 3 4 [] left; answer = gives Deletion 2 2 (A ∷ []) [] 3 }
    ∷ record { asked = on_two del 1 2 [] right; answer = gives Deletion 4 4 (A ∷ []) [] 2 }
    ∷ record { asked = on_open ins 0 2 (A ∷ []) right; answer = gives Duplication 4 4 (A ∷ []) [] 4 }
    ∷ record { asked = on_open ins 3 5 (C ∷ []) right; answer = gives Insertion 4 5 [] (C ∷ []) 1 }
    ∷ record { asked = on_open rep 4 6 (T ∷ C ∷ G ∷ []) right; answer = gives Insertion 5 6 [] (C ∷ []) 1 }
    ∷ record { asked = on_open rep 4 6 (C ∷ A ∷ []) right; answer = gives Inversion 5 6 (T ∷ G ∷ []) [] 0 }
    ∷ record { asked = on_open inv 5 11 [] right; answer = gives Unchanged 12 12 [] [] 1 }
    ∷ record { asked = on_open inv 5 11 [] left; answer = gives Unchanged 1 1 (C ∷ []) (C ∷ []) 5 }
    ∷ record { asked = on_one ins 10 12 (A ∷ G ∷ []) right; answer = gives Replacement 12 12 (A ∷ []) (A ∷ G ∷ A ∷ []) 1 }
    ∷ record { asked = on_open ins 0 2 (G ∷ C ∷ []) left; answer = gives Replacement 1 1 (C ∷ []) (C ∷ G ∷ C ∷ []) 1 }
    ∷ record { asked = on_open ins 10 12 (G ∷ G ∷ []) left; answer = refused VariantSpanOutsideSequenceBounds }
    ∷ record { asked = on_two ins 4 6 (A ∷ T ∷ []) right; answer = gives Insertion 5 6 [] (A ∷ T ∷ []) 1 }
    ∷ []

-- Rows that the marked ones leave open: open targets have no last-base rule; a duplication's copy goes in at gap end in both directions; a
-- change with both alleles empty ends at L and not past it, so the last-base rule leaves it; a replacement by the same bases is answered at once, also
-- over two exons
unfoldable pub further_rows : List BenchRow
further_rows =
    record { asked = on_open ins 10 12 (A ∷ G ∷ []) right; answer = gives Insertion 12 13 [] (G ∷ A ∷ []) 1 }
    ∷ record { asked = on_open dup 1 2 [] left; answer = gives Duplication 2 2 (A ∷ []) [] 2 }
    ∷ record { asked = on_one inv 5 11 [] right; answer = gives Unchanged 12 12 [] [] 1 }
    ∷ record { asked = on_two rep 3 5 (A ∷ T ∷ []) right; answer = gives Unchanged 4 5 (A ∷ T ∷ []) (A ∷ T ∷ []) 0 }
    ∷ []
