pub mod Restricting
pub mod Visited
