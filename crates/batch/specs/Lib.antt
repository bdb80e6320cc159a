pub mod Prints
pub mod Replays
pub mod Jobs
pub mod Verdicts
pub mod Parts
pub mod Texts
pub mod Laws
