pub mod Places
pub mod LiveRanges
pub mod Sorted
pub mod Judging
