pub mod Uses
pub mod Stays
pub mod Swept
