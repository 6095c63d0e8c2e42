-- Laws of asks and the resources that they carry.
pub mod Carrying
