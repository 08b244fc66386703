pub mod NoNumber
pub mod OneAnswer
