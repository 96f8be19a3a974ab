pub mod Region
pub mod RegionLaws
pub mod Lowest
pub mod RowSound
pub mod Walk
pub mod Held
pub mod First
