-- Definitions that the contracts cite, and how the records of a history are read.
pub mod Kept
pub mod Records
pub mod Joining
pub mod proved
