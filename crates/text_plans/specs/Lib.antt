-- Definitions that the contracts cite.
pub mod Finding
