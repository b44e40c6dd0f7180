-- What private contracts alone speak of.
pub mod Joined
pub mod TextErrors
