pub mod Preserving
pub mod Ends
pub mod Shortage
pub mod Preserves
