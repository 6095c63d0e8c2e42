-- Reading order.
pub mod Carrying
pub mod Limits
pub mod Turns
pub mod Sessions
pub mod Calls
pub mod Asks
pub mod Serving
-- What the parts of a session do, which no public clause names.
pub mod Chunks
