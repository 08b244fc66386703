pub mod Fields
pub mod Meaning
pub mod Weights
pub mod Judging
