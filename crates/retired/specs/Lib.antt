pub mod Retired
