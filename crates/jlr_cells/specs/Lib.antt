-- What words and links stand for, which object a cell holds, what is kept beside the cells, and what is shown of them.
pub mod Words
pub mod Contents
pub mod Changes
pub mod Nulls
pub mod Links
pub mod Visits
pub mod Keeping
pub mod Kinds
pub mod Showing
pub mod Occupying
pub mod Holding
