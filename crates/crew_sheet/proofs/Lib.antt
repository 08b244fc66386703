pub mod Findings
pub mod FindingsShown
pub mod HandedOn
pub mod OfRegister
pub mod OnePlace
pub mod Searched
