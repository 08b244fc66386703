pub mod Rounded
pub mod Within
