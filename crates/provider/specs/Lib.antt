pub mod Provider
pub mod Laws
