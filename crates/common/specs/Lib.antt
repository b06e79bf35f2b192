pub mod Comparator
pub mod Cut
pub mod Limits
pub mod Ranges
pub mod Refusals
pub mod Tested
pub mod Units
pub mod Words
