pub mod Scanning
pub mod Walkers
pub mod Walking
