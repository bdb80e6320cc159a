pub mod Faults
pub mod Turns
pub mod Ranks
pub mod Placed
pub mod Examples
