pub mod Desk
pub mod Laws
