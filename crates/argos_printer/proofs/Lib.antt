pub mod FormulaWords
pub mod GuardWords
pub mod ProcessWords
pub mod Spaced
pub mod Texts
