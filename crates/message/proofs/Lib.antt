pub mod Checked
pub mod Refusals
pub mod Opening
pub mod OneAnswer
pub mod Examples
pub mod RoundTrip
