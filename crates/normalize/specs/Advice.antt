-- What is said to one whose request is refused. Assumes nothing.
use Rattle.std.specs.Prelude.{ℕ, List}
use Rattle.definition.specs.declared.Refusal.{Refusal}
use Rattle.definition.specs.declared.Refusal.TheVariants.{
  BadCode,
  BadWindow,
  BadTarget,
  BadBase,
  CoordinatesOutOfBounds,
  BadInsertion,
  TooLong,
  BadAllele,
  NoRoom,
  BadTables,
  ExonNotFoundForStart,
  ExonNotFoundForEnd,
  ExonIntronBoundary,
  UtrExonBoundary,
  VariantSpanOutsideSequenceBounds,
}
use Rattle.asking.specs.Text.{ascii}

-- what to change, in a sentence
unfoldable pub advice_text : Refusal → List ℕ
advice_text BadCode = ascii "Give a listed kind, edit and direction."
advice_text BadWindow = ascii "Give a window from 1 to 1024."
advice_text BadTarget = ascii "Give a target of 1 to 65535 bases."
advice_text BadBase = ascii "Give a target of the letters A, C, G and T only."
advice_text CoordinatesOutOfBounds = ascii "Give a range whose start is below its end, inside the target; it counts from 0, and the end is not in it."
advice_text BadInsertion = ascii "Give an insertion's two flanking bases as its range, so that the end is start+2, and at least one letter to insert."
advice_text TooLong = ascii "Give a range and an alternative of at most 1024 bases each."
advice_text BadAllele = ascii "Give an alternative of the letters A, C, G and T only, in upper case."
advice_text NoRoom = ascii "Give answer buffers of at least 1025 bytes each."
advice_text BadTables =
    ascii "Give 1 to 512 exons in order that don't overlap, the last one ending at the target's end, and CDS bounds inside the target, the start at or before the end."
advice_text ExonNotFoundForStart = ascii "Give a range that starts in an exon."
advice_text ExonNotFoundForEnd = ascii "Give a range whose last base is in an exon."
advice_text ExonIntronBoundary = ascii "Give a range inside one exon, or the kind crossing."
advice_text UtrExonBoundary = ascii "Give a range on one side of CDS start and of CDS end, or the kind crossing."
advice_text VariantSpanOutsideSequenceBounds = ascii "Give the direction right: leftward, this insertion reaches past the target's end."
