pub mod COf
pub mod Laws
