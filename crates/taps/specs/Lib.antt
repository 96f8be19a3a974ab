pub mod Region
pub mod RegionLaws
