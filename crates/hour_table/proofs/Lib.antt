pub mod Entered
pub mod OneAnswer
pub mod Poured
pub mod SoundTables
pub mod TableField
