-- What is proved of double arithmetic, for the limits, the factor and the draw. No code needs a fact of it.
pub mod Bounds
pub mod Draw
pub mod Factor
pub mod Held
pub mod Ops
pub mod Order
pub mod Soft
pub mod Stored
pub mod Values
