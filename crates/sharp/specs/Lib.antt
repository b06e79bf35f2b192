pub mod Histories
pub mod Sharp
pub mod Apart
