pub mod Unnamed
pub mod Laws
