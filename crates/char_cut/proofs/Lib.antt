pub mod Followers
pub mod Walk
pub mod Reading
