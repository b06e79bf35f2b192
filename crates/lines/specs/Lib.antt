pub mod Shown
pub mod Reading
pub mod ReadLaws
pub mod Laws
