pub mod Anatomy
pub mod OneAnswer
pub mod Rebuilding
pub mod Shortness
