pub mod Fitting
pub mod Registers
pub mod Samples
pub mod Tables
pub mod Words
