pub mod AccessLogs
pub mod Buckets
pub mod DepLogs
pub mod Places
