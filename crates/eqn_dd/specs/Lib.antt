pub mod Completed
pub mod Denoting
pub mod Laws
pub mod Placed
pub mod Structural
pub mod inner
