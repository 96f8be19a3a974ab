pub mod Number
pub mod NumberLaws
pub mod Fields
