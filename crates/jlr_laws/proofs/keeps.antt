-- What each change of a machine keeps of its form.
pub mod Heap
pub mod References
pub mod Calls
pub mod TakeUps
pub mod Finish
pub mod OpenFailed
pub mod Prepare
pub mod Register
pub mod HandOver
