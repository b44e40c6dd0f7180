-- What only private contracts cite.
pub mod Own
pub mod Samples
