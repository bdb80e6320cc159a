pub mod Placed
pub mod Turning
pub mod Audit
pub mod Pairs
pub mod IdlePairs
pub mod WorkedExamples
