pub mod Seats
pub mod Playing
pub mod Turns
pub mod Whole
pub mod Reports
