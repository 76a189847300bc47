-- Lemmas.
pub mod MessageLemmas
