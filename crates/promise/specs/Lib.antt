pub mod Spoken
pub mod Lent
pub mod LentLaws
pub mod KeepsLaws
