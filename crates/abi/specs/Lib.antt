pub mod Faces
pub mod Laws
pub mod ReadOut
