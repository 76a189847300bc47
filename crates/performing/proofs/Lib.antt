-- Lemmas of these proofs.
pub mod Names
pub mod Edits
pub mod Changes
pub mod SessionLemmas
