pub mod Flags
pub mod Kept
pub mod Folding
pub mod Moving
