pub mod Held
pub mod WrittenOut
pub mod Trims
pub mod Window
pub mod Rests
