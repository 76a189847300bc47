pub mod Named
pub mod Replacements
