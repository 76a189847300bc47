pub mod Partitions
pub mod Stored
pub mod SumLaws
