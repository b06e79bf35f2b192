pub mod Decision
pub mod HistoryMode
pub mod Rows
