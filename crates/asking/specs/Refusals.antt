-- What a refusal is called: its number and name in docs/RULES.md. Assumes nothing.
use Rattle.std.specs.Prelude.{ℕ, List, ◌++◌}
use Rattle.definition.specs.declared.Refusal.{Refusal}
use Rattle.definition.specs.declared.Refusal.TheVariants.{
  BadCode,
  BadWindow,
  BadTarget,
  BadBase,
  CoordinatesOutOfBounds,
  BadInsertion,
  TooLong,
  BadAllele,
  NoRoom,
  BadTables,
  ExonNotFoundForStart,
  ExonNotFoundForEnd,
  ExonIntronBoundary,
  UtrExonBoundary,
  VariantSpanOutsideSequenceBounds,
}
use Rattle.definition.specs.Reply.{refusal_number}
use Rattle.asking.specs.Text.{ascii}
use Rattle.asking.specs.Digits.{decimal_text}

unfoldable pub refusal_name : Refusal → List ℕ
refusal_name BadCode = ascii "BadCode"
refusal_name BadWindow = ascii "BadWindow"
refusal_name BadTarget = ascii "BadTarget"
refusal_name BadBase = ascii "BadBase"
refusal_name CoordinatesOutOfBounds = ascii "CoordinatesOutOfBounds"
refusal_name BadInsertion = ascii "BadInsertion"
refusal_name TooLong = ascii "TooLong"
refusal_name BadAllele = ascii "BadAllele"
refusal_name NoRoom = ascii "NoRoom"
refusal_name BadTables = ascii "BadTables"
refusal_name ExonNotFoundForStart = ascii "ExonNotFoundForStart"
refusal_name ExonNotFoundForEnd = ascii "ExonNotFoundForEnd"
refusal_name ExonIntronBoundary = ascii "ExonIntronBoundary"
refusal_name UtrExonBoundary = ascii "UtrExonBoundary"
refusal_name VariantSpanOutsideSequenceBounds = ascii "VariantSpanOutsideSequenceBounds"

-- the number and the name
abbrev pub refusal_text : Refusal → List ℕ
refusal_text refusal = ascii "refusal " ++ decimal_text (refusal_number refusal) ++ ascii " " ++ refusal_name refusal
