pub mod Positions
pub mod Constraints
pub mod Rows
pub mod SideEdges
pub mod Building
pub mod Problems
pub mod Laws
pub mod Examples
