pub mod Decoded
pub mod Searched
