-- Definitions that the contracts cite.
pub mod Ends
pub mod Status
pub mod Answers
pub mod Files
pub mod Shown
pub mod proved
