mod Walks
pub mod Lowering
mod Sweeping
mod Pulling
mod Linking
mod Orders
mod Lanes
mod Chains
mod Kept
mod Ready
mod Placed
