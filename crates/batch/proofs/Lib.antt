pub mod Joining
pub mod Alike
pub mod Prints
pub mod Judging
