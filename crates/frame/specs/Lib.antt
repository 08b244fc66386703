pub mod Preparing
pub mod Stuffing
pub mod Writing
