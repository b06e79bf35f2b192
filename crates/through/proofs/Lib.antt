pub mod Events
pub mod Rings
pub mod Shot
pub mod Through
