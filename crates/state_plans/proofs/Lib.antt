pub mod Names
pub mod Handles
pub mod Masks
pub mod Ranges
pub mod Runs
pub mod Undoing
