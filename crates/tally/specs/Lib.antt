pub mod Tap
pub mod Body
pub mod Standing
