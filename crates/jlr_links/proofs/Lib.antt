pub mod Rooms
pub mod Walking
pub mod Appending
pub mod Leaving
pub mod InLists
pub mod Places
pub mod Writing
