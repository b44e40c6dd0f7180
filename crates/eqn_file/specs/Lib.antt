pub mod EquationFile
pub mod Errors
pub mod FileLaws
pub mod inner
