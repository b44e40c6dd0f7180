pub mod Among
pub mod Joining
pub mod Telling
pub mod TestedModule
