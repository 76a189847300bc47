-- Statements for the proofs of this crate and of the crates above. Each has its own proof, so nothing here is trusted.
pub mod Found
pub mod Refusals
