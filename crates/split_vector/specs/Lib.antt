pub mod Cells
pub mod Fields
pub mod Ownership
pub mod Split
pub mod SplitLends
pub mod Steps
pub mod SumLaws
