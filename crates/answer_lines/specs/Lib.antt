pub mod Reading
pub mod Hex
pub mod Laws
