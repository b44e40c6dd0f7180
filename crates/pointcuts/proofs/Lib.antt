mod BaseScope
mod Finding
pub mod Fitting
pub mod OneAnswer
mod Places
mod Refusing
pub mod SomeAnswer
mod ToldSets
