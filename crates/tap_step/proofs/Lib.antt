pub mod Turn
pub mod Found
pub mod Lines
pub mod Entered
