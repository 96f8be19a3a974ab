pub mod Speech
pub mod SpeechLaws
pub mod KindLaws
pub mod Answer
pub mod TableLaws
pub mod AnswerLaws
