pub mod Unique
pub mod CutsUnique
pub mod Within
pub mod PiecesUnique
