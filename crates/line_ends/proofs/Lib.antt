pub mod Names
pub mod Halves
pub mod Walk
pub mod Missing
pub mod Unwanted
pub mod Completed
pub mod Within
pub mod Pasted
