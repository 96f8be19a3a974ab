pub mod Opening
pub mod FreshWords
pub mod OpeningLaws
