pub mod Table
pub mod WhichBit
