pub mod Records
pub mod ThreadLogs
pub mod HandWords
pub mod Running
pub mod Gathered
pub mod Grouped
