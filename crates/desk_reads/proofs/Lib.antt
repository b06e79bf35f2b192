pub mod Range
pub mod ReadsBack
