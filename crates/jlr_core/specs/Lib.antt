-- What a run of a core is.
pub mod Runs
