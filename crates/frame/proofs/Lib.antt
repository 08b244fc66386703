pub mod OneAnswer
pub mod Pieces
pub mod Ready
pub mod Stuffing
