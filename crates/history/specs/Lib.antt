pub mod Played
pub mod Words
pub mod Playing
pub mod Stepping
pub mod Histories
pub mod HistoryLogs
