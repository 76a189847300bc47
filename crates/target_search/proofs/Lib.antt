pub mod Names
pub mod Finding
pub mod Fronts
pub mod MarkedBytes
pub mod Matching
