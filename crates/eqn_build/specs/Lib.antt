pub mod inner
pub mod Promises
