pub mod Bodies
pub mod BodyLaws
