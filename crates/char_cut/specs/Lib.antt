-- Definitions that the contracts of private functions cite; those of public functions are in ed_model.
pub mod Following
pub mod Places
