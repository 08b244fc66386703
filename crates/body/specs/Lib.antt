pub mod Addresses
pub mod Body
