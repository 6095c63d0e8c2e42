pub mod Spelling
pub mod Reading
pub mod Items
pub mod Laws
pub mod Tables
pub mod Objects
pub mod Records
