pub mod Expansion
pub mod Limits
pub mod Refusals
pub mod inner
