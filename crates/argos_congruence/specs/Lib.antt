pub mod NamedSets
pub mod Moved
pub mod Congruence
pub mod Laws
