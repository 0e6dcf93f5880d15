-- What `normalize` is asked. Assumes nothing.
use Rattle.std.specs.Prelude.{List, ℤ, ℕ}
use Rattle.definition.specs.Request.{Request}

-- the request that the parameters of `normalize` make
abbrev pub asked : List ℕ → ℕ → List ℕ → ℤ → ℤ → ℤ → ℤ → ℕ → List ℕ → ℕ → ℕ → ℕ → ℕ → Request
asked target kind exons cds_start cds_end start end edit alternative direction window reference_room alternative_room = record {
  target = target;
  kind_code = kind;
  exon_bytes = exons;
  cds_start = cds_start;
  cds_end = cds_end;
  range_start = start;
  range_end = end;
  edit_code = edit;
  alternative = alternative;
  direction_code = direction;
  window = window;
  reference_room = reference_room;
  alternative_room = alternative_room;
}
