pub mod HandNames
pub mod Names
pub mod Items
pub mod Memory
pub mod Sharing
pub mod Splits
pub mod Updating
pub mod Whole
