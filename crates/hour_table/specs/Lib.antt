pub mod Tables
pub mod Filling
