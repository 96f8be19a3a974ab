pub mod Turn
pub mod Lines
pub mod FindLaws
pub mod MessageLaws
