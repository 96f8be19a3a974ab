-- The definitions that the contracts cite, and their laws.
pub mod Compare
pub mod CompareLaws
pub mod File
pub mod FileLaws
