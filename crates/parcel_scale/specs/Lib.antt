pub mod Frame
pub mod Layouts
pub mod Reading
pub mod Value
pub mod Writing
