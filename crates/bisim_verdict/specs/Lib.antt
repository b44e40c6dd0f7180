pub mod Bisimulation
pub mod Counts
pub mod EquivFunctions
pub mod EquivTests
pub mod Laws
