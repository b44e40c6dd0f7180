pub mod Restrictions
pub mod Quantifiers
pub mod LeastWalk
pub mod Listings
