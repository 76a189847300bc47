-- Definitions that the contracts cite.
pub mod Owned
pub mod Lends
pub mod Answers
pub mod Calls
pub mod Opened
pub mod Copies
pub mod Starts
pub mod Told
pub mod Names
pub mod Asked
