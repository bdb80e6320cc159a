pub mod Running
pub mod Threads
