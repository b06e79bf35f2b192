pub mod Cleanup
pub mod Laws
