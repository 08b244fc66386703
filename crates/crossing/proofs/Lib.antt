pub mod Crossing
pub mod OneAnswer
