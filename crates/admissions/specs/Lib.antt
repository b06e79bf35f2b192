pub mod Log
pub mod Buckets
pub mod Good
