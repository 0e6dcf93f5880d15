pub mod Unique
pub mod AllBases
pub mod Gathered
pub mod ReverseComplement
pub mod SameBases
pub mod BasesUnique
pub mod ReachLaws
pub mod ReachUnique
