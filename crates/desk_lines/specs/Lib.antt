pub mod Lines
pub mod Step
pub mod Stored
