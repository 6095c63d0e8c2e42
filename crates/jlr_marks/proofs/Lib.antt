pub mod MarkCounts
pub mod Shading
pub mod Greying
