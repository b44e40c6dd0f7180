pub mod inner
pub mod Simple
pub mod Views
pub mod Words
