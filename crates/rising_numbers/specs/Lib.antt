pub mod Numbers
pub mod Stored
pub mod SumLaws
pub mod proved
