pub mod Binary
pub mod Completions
pub mod Findings
pub mod Laws
pub mod Moving
pub mod OrderedSystems
pub mod Sorted
