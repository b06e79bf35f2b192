pub mod Histories
pub mod Limiters
pub mod Totals
