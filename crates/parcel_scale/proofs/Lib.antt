pub mod Frames
pub mod OneAnswer
pub mod Rows
pub mod Values
