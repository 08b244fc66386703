pub mod Handed
pub mod OneAnswer
pub mod Listed
