pub mod AtRest
pub mod FirstByte
pub mod OneAnswer
pub mod OneStep
pub mod Scan
pub mod WithinReach
