pub mod Digits
pub mod OneAnswer
pub mod SignedWords
