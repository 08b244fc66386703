pub mod Distinct
pub mod OneAnswer
pub mod Verdicts
