pub mod Lines
pub mod Taking
pub mod Puts
