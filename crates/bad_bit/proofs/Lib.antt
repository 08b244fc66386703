pub mod Asked
pub mod BitTest
pub mod OneAnswer
pub mod Search
pub mod Table
