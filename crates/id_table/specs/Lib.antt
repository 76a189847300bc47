pub mod Entries
pub mod Lends
pub mod Order
