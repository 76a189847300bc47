-- Statements on the definitions for the proofs of higher crates. Each has its own proof, so nothing here is trusted.
pub mod Rising
