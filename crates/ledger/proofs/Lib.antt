pub mod MessageLaws
pub mod Cases
pub mod LogLaws
pub mod RecordLaws
