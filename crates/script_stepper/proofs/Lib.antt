-- Lemmas.
mod NextCommand
