-- Statements about documents that are left, and about requests, for the proofs of this crate and of those above. Each has its own proof, so none
-- of them has to be trusted.
pub mod Leaving
pub mod Asked
