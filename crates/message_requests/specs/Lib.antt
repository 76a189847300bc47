-- Definitions that the contracts cite.
pub mod Changing
pub mod HandingOut
pub mod Replacing
pub mod Requested
pub mod proved
