pub mod Seats
pub mod Sends
pub mod Begins
pub mod Works
