pub mod Limiters
pub mod Histories
