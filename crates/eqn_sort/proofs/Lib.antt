pub mod Entries
pub mod Inside
pub mod Loops
pub mod Reactions
pub mod Samples
pub mod Steps
