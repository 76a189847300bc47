-- Definitions that the contracts cite.
pub mod Asking
pub mod Settings
pub mod Ways
