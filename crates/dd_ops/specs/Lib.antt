pub mod Least
pub mod Listed
pub mod Quantified
pub mod inner
