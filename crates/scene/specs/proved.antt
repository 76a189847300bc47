-- Statements about steps in turn, about values that are kept by id, and about the views of a document, each with its own proof, for the proofs of
-- this crate and of the crates above. None of them is an assumption.
pub mod Enough
pub mod Rooms
pub mod Finding
pub mod ViewWidths
pub mod Watched
