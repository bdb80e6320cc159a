pub mod Places
pub mod AccessLogs
pub mod Noted
pub mod Chains
pub mod MoreReads
pub mod Digests
