pub mod Bits
pub mod Laws
pub mod SingleBits
pub mod Slices
pub mod Wide
