pub mod Merge
pub mod OrderLaws
pub mod MergeLaws
pub mod RowLaws
pub mod WordLaws
pub mod Merging
