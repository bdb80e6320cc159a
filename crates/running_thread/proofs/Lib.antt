pub mod ThreadFacts
pub mod Beginnings
pub mod Stepping
pub mod Running
pub mod Outputs
pub mod Ends
pub mod Lists
