pub mod HeadLines
pub mod Put
pub mod Message
pub mod Lines
pub mod Done
