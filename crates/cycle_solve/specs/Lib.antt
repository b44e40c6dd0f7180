pub mod inner
pub mod LeastFunctions
pub mod Solved
