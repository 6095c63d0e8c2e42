-- Reading order.
pub mod OneHistory
pub mod Asking
pub mod Due
pub mod Loops
pub mod Closing
pub mod Ports
-- What no public clause names: limits for where none are picked, what a step of the book adds, what lies under the
-- lock, and what is kept there of the resources that are open.
pub mod Least
pub mod Telling
pub mod Locking
-- For crates above.
pub use Rattle.jlr_book.specs.Histories
pub use Rattle.jlr_log.specs.Seeing
