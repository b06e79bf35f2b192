pub mod Ends
pub mod Preserves
pub mod Shortage
pub mod Surplus
pub mod Turns
