pub mod Decimals
pub mod Examples
pub mod Handed
pub mod Lengths
pub mod OneAnswer
pub mod Putting
