pub mod Names
pub mod Carried
pub mod LeastHeading
pub mod Padded
pub mod RowParts
pub mod RowReads
