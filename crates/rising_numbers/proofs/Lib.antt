pub mod Names
pub mod Changes
pub mod Halving
pub mod Lists
pub mod Parts
pub mod Steps
