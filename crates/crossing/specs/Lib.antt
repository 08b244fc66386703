pub mod Events
pub mod Families
pub mod Roles
pub mod Writing
