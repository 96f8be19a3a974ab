pub mod Owes
pub mod RunLaws
pub mod SaidLaws
pub mod TurnLaws
