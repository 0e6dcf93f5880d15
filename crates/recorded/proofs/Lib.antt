-- What the proofs share. Assumes nothing.
pub mod Held
pub mod Replied
