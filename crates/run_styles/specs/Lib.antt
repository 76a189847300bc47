pub mod Changes
pub mod Expansion
pub mod Runs
pub mod Table
