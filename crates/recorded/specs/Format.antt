-- The format of a stored record. Its request: the target, the kind, the exon table, both bounds of the CDS and both ends of the range, the edit,
-- the alternative, the direction and the window. Its answer: the refusal, the class, the range, the probes and both alleles. A number takes four
-- bytes, the lowest first, and a bound of the CDS eight; a part is its length and its bytes. Assumes nothing.
use Rattle.std.specs.Prelude.{ℕ, ◌+◌, ◌*◌, cond, List, leb, ℤ, length, Option, Some, None}
use Rattle.std.specs.Int.{w32, w64}
use Rattle.std.proofs.Common.{to_z}
use Rattle.tables.specs.Numbers.{number_at}
use Rattle.asking.specs.Text.{part_of}
use Rattle.recorded.specs.declared.records.Numbers.{Numbers}

-- a part of the file, and the place behind it
pub record Part : Type 0 where
  pub bytes : List ℕ
  pub to : ℕ

-- the request of a record, and the place behind it
pub record Asked : Type 0 where
  pub target : List ℕ
  pub exons : List ℕ
  pub alternative : List ℕ
  pub numbers : Numbers
  pub to : ℕ

-- the answer of a record, and the place behind it
pub record Kept : Type 0 where
  pub refusal : ℕ
  pub class : ℕ
  pub start : ℕ
  pub end : ℕ
  pub probes : ℕ
  pub reference : List ℕ
  pub alternative : List ℕ
  pub to : ℕ

-- the number at a place; 0 where the file ends before it does
unfoldable pub stored_number : List ℕ → ℕ → ℕ
stored_number file at =
    cond (leb (at + 4) (length file)) (number_at file at) 0

-- the number with a sign at a place, of 32 bits and of 64
unfoldable pub signed_at : List ℕ → ℕ → ℤ
signed_at file at = to_z w32 (stored_number file at)

unfoldable pub signed_long_at : List ℕ → ℕ → ℤ
signed_long_at file at = to_z w64 (stored_number file at + stored_number file (at + 4) * 4294967296)

-- the part whose length stands at a place, where the file has the whole of it
unfoldable pub part_at : List ℕ → ℕ → Option Part
part_at file at =
    cond (leb (at + 4 + stored_number file at) (length file))
    (Some (record { bytes = part_of file (at + 4) (at + 4 + stored_number file at); to = at + 4 + stored_number file at })) None

-- the numbers of a request, by where its target, its exon table and its alternative end
abbrev pub numbers_at : List ℕ → ℕ → ℕ → ℕ → Numbers
numbers_at file target exons alternative = record {
  kind = stored_number file target;
  cds_start = signed_long_at file exons;
  cds_end = signed_long_at file (exons + 8);
  start = signed_at file (exons + 16);
  end = signed_at file (exons + 20);
  edit = stored_number file (exons + 24);
  direction = stored_number file alternative;
  window = stored_number file (alternative + 4);
}

-- the request whose target, exon table and alternative are these, where the file has the whole of each
abbrev pub with_alternative : List ℕ → Part → Part → Option Part → Option Asked
with_alternative file target exons None = None
with_alternative file target exons (Some alternative) =
    Some
    (record {
      target = target.bytes;
      exons = exons.bytes;
      alternative = alternative.bytes;
      numbers = numbers_at file target.to exons.to alternative.to;
      to = alternative.to + 8;
    })

abbrev pub with_exons : List ℕ → Part → Option Part → Option Asked
with_exons file target None = None
with_exons file target (Some exons) = with_alternative file target exons (part_at file (exons.to + 28))

abbrev pub with_target : List ℕ → Option Part → Option Asked
with_target file None = None
with_target file (Some target) = with_exons file target (part_at file (target.to + 4))

-- the request at a place
unfoldable pub request_at : List ℕ → ℕ → Option Asked
request_at file at = with_target file (part_at file at)

-- the answer whose numbers begin at a place, and whose alleles are these, where the file has the whole of each
abbrev pub with_second : List ℕ → ℕ → Part → Option Part → Option Kept
with_second file at reference None = None
with_second file at reference (Some alternative) =
    Some
    (record {
      refusal = stored_number file at;
      class = stored_number file (at + 4);
      start = stored_number file (at + 8);
      end = stored_number file (at + 12);
      probes = stored_number file (at + 16);
      reference = reference.bytes;
      alternative = alternative.bytes;
      to = alternative.to;
    })

abbrev pub with_first : List ℕ → ℕ → Option Part → Option Kept
with_first file at None = None
with_first file at (Some reference) = with_second file at reference (part_at file reference.to)

-- the stored answer at a place
unfoldable pub stored_at : List ℕ → ℕ → Option Kept
stored_at file at = with_first file at (part_at file (at + 20))
