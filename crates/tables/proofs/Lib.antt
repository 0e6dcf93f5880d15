pub mod Rules
pub mod Unique
pub mod Pairs
pub mod ExonsUnique
pub mod LittleEndianUnique
pub mod Order
pub mod Turns
