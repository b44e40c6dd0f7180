pub mod Building
pub mod Listing
pub mod Roots
