pub mod Leaving
pub mod OneAnswer
pub mod Over
