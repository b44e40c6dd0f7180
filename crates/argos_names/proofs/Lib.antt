pub mod Breaches
pub mod Components
pub mod Processes
pub mod Scopes
pub mod Signals
