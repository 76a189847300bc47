-- Definitions that the contracts cite.
pub mod Buffer
pub mod Growing
pub mod Lends
pub mod SumLaws
