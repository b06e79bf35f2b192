pub mod Parties
pub mod Census
