pub mod History
pub mod Kept
pub mod Steps
pub mod Demand3
pub mod Modes
