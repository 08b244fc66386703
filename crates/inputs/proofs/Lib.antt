pub mod Bits
pub mod OneAnswer
