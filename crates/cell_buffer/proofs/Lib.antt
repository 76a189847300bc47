pub mod Names
pub mod Pairs
pub mod Stored
pub mod Costs
pub mod Changed
pub mod Filled
