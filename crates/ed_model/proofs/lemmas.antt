-- Lemmas on how scripts are spelled and read.
pub mod Spelling
pub mod Texts
pub mod Fields
pub mod Commands
pub mod Scripts
