-- Definitions that the contracts cite.
pub mod Widths
pub mod Edits
pub mod History
pub mod Fit
pub mod Notes
pub mod ChangeNeeds
pub mod Changed
pub mod Kept
pub mod Asked
pub mod Folding
pub mod SessionMemory
pub mod proved
