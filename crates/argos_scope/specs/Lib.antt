pub mod Faults
pub mod Meaning
pub mod TextFaults
pub mod inner
