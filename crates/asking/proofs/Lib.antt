-- What the proofs share. Assumes nothing.
pub mod Came
pub mod Tables
pub mod Unique
-- What the proofs share. Assumes nothing.
pub mod DecimalsDigits
pub mod DecimalsUnique
-- What the proofs share. Assumes nothing.
pub mod DigitsLaws
pub mod DigitsUnique
-- What the proofs share. Assumes nothing.
pub mod Laid
pub mod Pairs
pub mod ExonListsReading
pub mod ExonListsUnique
-- What the proofs share. Assumes nothing.
pub mod Keeping
pub mod Header
pub mod LettersUnique
-- What the proofs share. Assumes nothing.
pub mod LinesLaws
pub mod LinesUnique
-- What the proofs share. Assumes nothing.
pub mod ProblemsUnique
-- What the proofs share. Assumes nothing.
pub mod RefusalsUnique
-- What the proofs share. Assumes nothing.
pub mod RequestsReading
pub mod RequestsUnique
-- What the proofs share. Assumes nothing.
pub mod RunsDigits
pub mod Marks
pub mod Expanding
pub mod RunsUnique
-- What the proofs share. Assumes nothing.
pub mod Given
pub mod Fronts
pub mod TargetsUnique
-- What the proofs share. Assumes nothing.
pub mod Meanings
pub mod Pages
pub mod TerminalUnique
-- What the proofs share. Assumes nothing.
pub mod Tests
pub mod Found
pub mod Splits
pub mod TextUnique
-- What the proofs share. Assumes nothing.
pub mod ValuesUnique
