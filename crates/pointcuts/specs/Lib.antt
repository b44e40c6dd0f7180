pub mod Laws
pub mod Pointcuts
pub mod Refusals
pub mod inner
