pub mod Shots
pub mod Laws
