pub mod Gathered
pub mod Ranges
