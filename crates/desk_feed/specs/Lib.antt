pub mod Feed
pub mod Clauses
pub mod Laws
