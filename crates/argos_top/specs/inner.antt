pub mod Commands
pub mod Comparing
pub mod Compiling
pub mod Endings
pub mod Lines
pub mod Sampling
