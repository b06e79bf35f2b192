pub mod Calls
pub mod Delete
pub mod Rate
pub mod Set
pub mod Opened
pub mod Seen
pub mod Applies
pub mod SetLaws
