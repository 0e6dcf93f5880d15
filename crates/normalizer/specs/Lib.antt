-- What the contracts of `src/` cite. Assumes nothing.
pub mod Asked
pub mod Passed
pub mod Queries
pub mod Reads
pub mod Range
pub mod Replied
pub mod Ways
pub mod SpellingAsked
pub mod Spelled
