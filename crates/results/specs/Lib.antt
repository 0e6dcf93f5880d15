pub mod Leaves
pub mod Asked
pub mod Reported
pub mod Called
pub mod Settled
pub mod Found
pub mod Rules
pub mod Lent
