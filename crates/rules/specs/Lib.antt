pub mod Buckets
pub mod Held
pub mod Both
pub mod Absolute
pub mod Suppressed
pub mod Sets
pub mod Stale
