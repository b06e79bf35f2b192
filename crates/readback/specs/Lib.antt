pub mod Meaning
pub mod Laws
pub mod ReadBack
