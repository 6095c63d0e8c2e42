pub mod Marking
pub mod Slow
pub mod PlacesLeft
pub mod Losing
pub mod Slots
pub mod Tables
