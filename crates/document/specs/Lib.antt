-- Definitions that the contracts cite.
pub mod Kept
pub mod Memory
pub mod TextSteps
pub mod Places
pub mod Parts
pub mod Lends
pub mod Undoing
pub mod Changes
pub mod proved
