pub mod Examples
pub mod OneAnswer
pub mod Saying
