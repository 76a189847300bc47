-- Definitions that the contracts cite.
pub mod Jobs
