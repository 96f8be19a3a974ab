pub mod Which
pub mod WhichLaws
