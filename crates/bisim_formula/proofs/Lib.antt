pub mod CertLists
pub mod CertMaking
pub mod Certifying
pub mod Lending
pub mod Operands
pub mod Tables
