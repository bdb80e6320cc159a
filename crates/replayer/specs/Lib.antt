pub mod Replays
pub mod Differences
pub mod Verdicts
pub mod KeptSteps
pub mod Notes
pub mod Words
pub mod Seats
