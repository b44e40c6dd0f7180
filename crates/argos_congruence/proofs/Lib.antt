pub mod Naming
pub mod Watching
pub mod SharedNames
pub mod Woven
pub mod Sized
pub mod MovedTraces
pub mod CongruenceLaws
pub mod Examples
