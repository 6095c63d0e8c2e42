-- Which soft references are kept.
pub mod Keeping
