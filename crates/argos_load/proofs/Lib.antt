pub mod AspectStages
pub mod CauseTexts
pub mod CertStages
pub mod Chains
pub mod FileStages
pub mod Loads
