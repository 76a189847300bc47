pub mod Lines
pub mod Searching
