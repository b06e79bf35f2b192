pub mod Keys
pub mod Frame
pub mod Distinct
pub mod Whole
pub mod Exact
