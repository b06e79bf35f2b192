pub mod Laws
pub mod Ages
pub mod Cases
