pub mod Sound
pub mod Slot
pub mod Look
pub mod Right
