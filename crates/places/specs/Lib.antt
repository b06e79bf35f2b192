pub mod Has
pub mod Placed
pub mod SoundRoom
