-- What the contracts of `src/` cite. Assumes nothing.
pub mod Handed
pub mod Reached
-- What the contracts of `src/` cite. Assumes nothing.
pub mod Decimal
-- What the contracts of `src/` cite. Assumes nothing.
pub mod Digits
-- What the contracts of `src/` cite. Assumes nothing.
pub mod Laid
pub mod Exons
-- What the contracts of `src/` cite. Assumes nothing.
pub mod Letters
-- What the contracts of `src/` cite. Assumes nothing.
pub mod LinesRules
-- What the contracts of `src/` cite. Assumes nothing.
pub mod Problems
-- What the contracts of `src/` cite. Assumes nothing.
pub mod Refusals
-- What the contracts of `src/` cite. Assumes nothing.
pub mod Names
pub mod Request
pub mod Options
-- What the contracts of `src/` cite. Assumes nothing.
pub mod Runs
-- What the contracts of `src/` cite. Assumes nothing.
pub mod Sources
-- What the contracts of `src/` cite. Assumes nothing.
pub mod Page
-- What the contracts of `src/` cite. Assumes nothing.
pub mod Text
-- What the contracts of `src/` cite. Assumes nothing.
pub mod Values
