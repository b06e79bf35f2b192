pub mod Range
pub mod Reads
