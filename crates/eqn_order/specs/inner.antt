-- What private contracts cite.
pub mod Cyclic
pub mod Graphs
pub mod Searches
pub mod Sources
pub mod Views
