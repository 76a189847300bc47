pub mod Leaving
pub mod Lends
