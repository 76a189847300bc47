-- Statements about requests, for the proofs of the crates above. Each has its own proof, so none of them has to be trusted.
pub mod Ranges
pub mod Standing
