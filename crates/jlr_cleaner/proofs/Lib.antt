pub mod Apart
pub mod Listing
pub mod Closing
pub mod Stepping
pub mod Registering
