pub mod Arenas
pub mod Chains
pub mod Diagrams
pub mod Functions
pub mod Laws
pub mod Operations
pub mod inner
