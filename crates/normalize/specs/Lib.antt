-- What the contracts of `src/` cite. Assumes nothing.
pub mod Advice
pub mod Paths
pub mod Usage
