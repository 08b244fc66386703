pub mod Lengths
pub mod Table
