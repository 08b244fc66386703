pub mod Digits
pub mod Families
pub mod Status
pub mod Bytes
pub mod Tenths
