pub mod LowFirst
pub mod Signed
