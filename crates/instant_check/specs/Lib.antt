pub mod Effects
pub mod ModuleOverlaps
pub mod Reading
pub mod StateOverlaps
pub mod Telling
pub mod inner
