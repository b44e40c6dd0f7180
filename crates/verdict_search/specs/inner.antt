pub mod Parting
pub mod Pinning
pub mod Solving
pub mod Taking
pub mod Testing
