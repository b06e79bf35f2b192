pub mod Factor
pub mod Tested
