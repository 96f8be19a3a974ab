pub mod BodyLaws
pub mod Cases
pub mod CountingLaws
pub mod StandingLaws
pub mod TapLaws
pub mod WordLaws
