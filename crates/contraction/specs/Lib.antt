pub mod Folding
pub mod Headings
pub mod Levels
pub mod LineSets
pub mod ViewLines
