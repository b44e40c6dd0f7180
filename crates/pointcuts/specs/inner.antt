-- What private contracts alone speak of.
pub mod Errors
pub mod Finding
pub mod Sorts
