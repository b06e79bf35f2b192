pub mod Calls
pub mod Laws
pub mod Opened
pub mod Seen
pub mod Standing
