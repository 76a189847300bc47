-- Statements about the definitions for the proofs of the crates above. Each has its own proof, so none of them is trusted.
pub mod Room
