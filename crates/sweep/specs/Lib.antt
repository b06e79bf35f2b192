pub mod Sweep
pub mod Turns
pub mod Found
pub mod Looked
pub mod Measured
pub mod Wholly
