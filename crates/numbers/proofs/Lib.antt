pub mod Step
pub mod Turn
pub mod FieldLaws
