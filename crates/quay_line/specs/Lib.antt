pub mod Listening
pub mod Places
