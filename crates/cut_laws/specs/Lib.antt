pub mod Cuts
pub mod Searches
pub mod CutLaws
pub mod SearchLaws
pub mod PlayLaws
pub mod Examples
