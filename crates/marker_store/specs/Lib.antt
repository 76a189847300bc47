pub mod Chains
pub mod Dropping
pub mod Fields
pub mod Lines
pub mod Store
