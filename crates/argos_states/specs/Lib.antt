pub mod inner
pub mod Lent
