pub mod Told
pub mod Range
pub mod Rows
