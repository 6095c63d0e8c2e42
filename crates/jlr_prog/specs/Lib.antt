-- Reading order. What a session is, and what its book is; then settlings.
pub mod Wholes
pub mod Histories
pub mod Books
pub mod Settling
pub mod Solos
pub mod OneTurn
