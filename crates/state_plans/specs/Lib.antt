-- Definitions that the contracts cite.
pub mod Acting
pub mod Referring
