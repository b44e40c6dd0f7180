pub mod Differences
pub mod inner
pub mod Laws
pub mod Reports
pub mod States
pub mod Texts
