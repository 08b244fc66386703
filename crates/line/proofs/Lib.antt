pub mod Blocks
pub mod EveryStep
pub mod Joined
pub mod Keeping
pub mod OneAnswer
