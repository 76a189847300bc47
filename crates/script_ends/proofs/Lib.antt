-- Lemmas.
pub mod Names
pub mod TakenBytes
pub mod Writing
