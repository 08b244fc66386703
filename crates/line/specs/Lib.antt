pub mod Listener
pub mod Readers
pub mod Steps
