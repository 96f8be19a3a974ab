pub mod ElementLaws
pub mod Neighbours
pub mod Sorted
