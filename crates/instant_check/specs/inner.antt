pub mod Chosen
pub mod Jobs
pub mod Marking
pub mod Meeting
pub mod Searching
