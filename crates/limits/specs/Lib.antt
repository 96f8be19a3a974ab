pub mod Limits
pub mod LimitLaws
pub mod KindNumbers
