pub mod Decorated
pub mod Slots
