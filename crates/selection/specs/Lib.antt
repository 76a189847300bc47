pub mod Positions
pub mod Keys
pub mod Laws
