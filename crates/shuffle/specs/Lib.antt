pub mod Settled
pub mod Slides
pub mod Windows
