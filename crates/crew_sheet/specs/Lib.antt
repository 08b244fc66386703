pub mod Findings
pub mod FindingsShown
pub mod HandedOn
