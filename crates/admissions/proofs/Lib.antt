pub mod Buckets
pub mod Good
pub mod Log
