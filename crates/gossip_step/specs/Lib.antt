pub mod Refusals
pub mod RefusalLaws
pub mod Taken
pub mod Heard
pub mod Stop
