pub mod Counted
pub mod OneAnswer
pub mod Sums
