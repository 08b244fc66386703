pub mod ByteLists
pub mod Computed
pub mod OneAnswer
