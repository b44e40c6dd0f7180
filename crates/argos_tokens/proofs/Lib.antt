pub mod Fronts
pub mod Longest
pub mod Readings
pub mod ReadsAlike
pub mod Separators
pub mod TokenFronts
pub mod TokensOnce
