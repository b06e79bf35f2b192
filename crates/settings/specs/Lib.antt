pub mod Settings
pub mod Clock
