-- What only private contracts cite.
pub mod LineValues
pub mod OrderTest
