pub mod Decoded
pub mod Nodes
pub mod Searched
pub mod Sharing
