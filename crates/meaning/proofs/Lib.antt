pub mod StepLaws
pub mod AnswerLaws
pub mod Cases
pub mod SettleLaws
