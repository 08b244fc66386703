pub mod Judged
pub mod JudgedShown
pub mod Misses
pub mod MissesShown
pub mod Places
pub mod PlacesShown
pub mod Powers
