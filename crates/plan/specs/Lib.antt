pub mod Plan
pub mod Fits
pub mod Known
pub mod Looked
pub mod Seen
