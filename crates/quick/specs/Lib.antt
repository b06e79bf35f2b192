pub mod Quick
pub mod Laws
pub mod Turns
pub mod Judged
