pub mod Placings
pub mod Pairs
pub mod PlacingLaws
pub mod AuditLaws
pub mod IdlePairs
pub mod Examples
