pub mod Message
pub mod Tags
pub mod Find
pub mod Parts
pub mod Told
pub mod Runs
pub mod LineLaws
