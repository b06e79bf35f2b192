pub mod Apart
pub mod Histories
pub mod Sharp
