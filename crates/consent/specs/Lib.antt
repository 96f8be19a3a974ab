pub mod Numbered
pub mod NumberedLaws
