pub mod Absolute
pub mod Calls
pub mod Cleanup
pub mod Shared
pub mod SuppressedFollows
pub mod Unit
