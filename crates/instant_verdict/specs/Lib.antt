pub mod Jobs
pub mod Verdicts
pub mod inner
