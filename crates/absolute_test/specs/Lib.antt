pub mod Test
pub mod Laws
