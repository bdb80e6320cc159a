pub mod Laws
pub mod Narrowing
pub mod Shut
pub mod Bounds
pub mod Tables
pub mod Openings
pub mod Texts
