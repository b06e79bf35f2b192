pub mod Words
pub mod Changes
pub mod Steps
