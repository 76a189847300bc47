-- Definitions that the contracts cite.
pub mod Messages
pub mod Notices
pub mod Heard
pub mod MessagesLaws
pub mod proved
