pub mod Nexts
pub mod Stops
pub mod Strays
pub mod Plays
pub mod Snaps
pub mod Stopping
pub mod Texts
