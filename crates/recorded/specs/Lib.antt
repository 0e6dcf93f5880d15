-- What the contracts of `src/` cite. Assumes nothing.
pub mod Format
pub mod Replay
