pub mod Handing
pub mod Stepping
pub mod Telling
