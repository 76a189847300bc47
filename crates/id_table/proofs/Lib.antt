pub mod Names
pub mod PlaceLemmas
pub mod EntryLemmas
