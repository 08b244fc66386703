pub mod Lines
pub mod Texts
pub mod Writing
pub mod Whole
