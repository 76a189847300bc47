pub mod Bits
pub mod proved
