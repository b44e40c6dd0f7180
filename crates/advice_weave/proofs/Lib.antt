pub mod Joining
pub mod Registers
