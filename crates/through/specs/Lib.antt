pub mod Shot
pub mod Events
pub mod Through
pub mod Rings
