pub mod Parts
pub mod Long
