pub mod Cases
pub mod Found
pub mod Rare
pub mod Searches
