pub mod Taking
pub mod Texts
pub mod WordReading
pub mod Words
pub mod Sections
pub mod Stages
