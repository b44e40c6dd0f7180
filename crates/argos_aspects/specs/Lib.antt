pub mod Aspects
pub mod Laws
pub mod Views
pub mod Weaving
