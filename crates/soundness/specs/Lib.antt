pub mod Clauses
pub mod SoundLaws
