pub mod Rings
pub mod Roomy
pub mod Spaced
pub mod Window
pub mod Zeros
pub mod Wrong
pub mod Least
