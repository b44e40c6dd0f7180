pub mod Derivations
pub mod Conditions
pub mod Trees
pub mod Readings
pub mod Texts
