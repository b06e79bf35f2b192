pub mod Opened
pub mod Laws
