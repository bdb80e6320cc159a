pub mod Draws
pub mod Arenas
pub mod Summaries
