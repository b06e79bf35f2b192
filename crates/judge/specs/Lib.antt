pub mod Held
pub mod Judge
pub mod Verdict
