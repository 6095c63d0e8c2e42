pub mod Fitting
pub mod Handing
pub mod Carrying
pub mod Handles
pub mod Values
