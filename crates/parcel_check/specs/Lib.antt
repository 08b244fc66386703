pub mod Check
pub mod Printed
