pub mod Frame
pub mod FrameLaws
pub mod Next
pub mod NextLaws
