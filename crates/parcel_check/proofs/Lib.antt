pub mod Folding
pub mod Laws
pub mod OneAnswer
