pub mod Consistency
pub mod Counts
pub mod Outcomes
pub mod Parts
pub mod Roots
pub mod Splitting
pub mod inner
