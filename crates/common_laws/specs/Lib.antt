pub mod FactorLaws
pub mod Floats
pub mod LimitLaws
pub mod ShareLaws
pub mod UnitLaws
