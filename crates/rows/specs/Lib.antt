pub mod Plain
pub mod Lines
