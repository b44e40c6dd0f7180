-- What only private contracts cite.
pub mod Drafts
pub mod HeadParts
pub mod LineReading
pub mod Parts
pub mod Pieces
pub mod Places
pub mod Ranges
pub mod Scopes
pub mod Taking
pub mod Texts
pub mod Within
