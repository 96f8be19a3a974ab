pub mod Moves
pub mod MovesLaws
pub mod Ready
pub mod InPlace
