pub mod Certificates
pub mod Formulas
pub mod inner
pub mod Laws
pub mod ResolveViews
pub mod Views
