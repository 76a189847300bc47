-- Definitions that the contracts cite.
pub mod Answers
pub mod Documents
pub mod Plans
pub mod Planned
pub mod Lent
pub mod Lends
pub mod Ranges
pub mod Edits
pub mod Opening
pub mod PartLends
pub mod Performing
pub mod Commands
