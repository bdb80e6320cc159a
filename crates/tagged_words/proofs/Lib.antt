pub mod Places
pub mod Held
pub mod Keeps
pub mod Seats
pub mod Shares
pub mod Bounds
pub mod Sources
pub mod Hands
