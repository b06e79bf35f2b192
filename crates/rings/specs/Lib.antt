pub mod Spaced
pub mod Window
pub mod Roomy
pub mod Row
pub mod Zeros
pub mod Rings
pub mod Wrong
