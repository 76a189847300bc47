-- Definitions that the contracts cite.
pub mod Fields
pub mod Stops
pub mod Fronts
pub mod Versions
pub mod Lines
pub mod Scripts
pub mod Appending
pub mod Notes
pub mod Recorded
