pub mod Adding
pub mod Caches
pub mod Choices
pub mod Tables
