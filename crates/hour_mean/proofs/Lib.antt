pub mod Greatest
pub mod Lowest
pub mod OneAnswer
pub mod Parts
pub mod Signs
