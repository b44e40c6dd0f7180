pub mod Bools
pub mod NameLemmas
pub mod DigitLemmas
pub mod Pieces
pub mod Places
pub mod SetLemmas
