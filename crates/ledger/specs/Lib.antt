pub mod Record
pub mod Message
pub mod Log
pub mod LimitLaws
pub mod Readable
pub mod ReadyLaws
