pub mod Gateway
pub mod Steps
