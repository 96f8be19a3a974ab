pub mod Shape
pub mod Edges
pub mod Laws
pub mod ReadLaws
pub mod Returns
