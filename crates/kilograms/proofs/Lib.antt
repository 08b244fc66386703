pub mod Quotient
pub mod Halves
pub mod Rounding
pub mod TrueWeight
pub mod OneAnswer
pub mod Examples
