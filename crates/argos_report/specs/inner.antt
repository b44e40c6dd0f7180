-- What only private contracts cite.
pub mod Tested
pub mod Told
