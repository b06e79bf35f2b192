pub mod Row
pub mod ReadOut
pub mod Rule
