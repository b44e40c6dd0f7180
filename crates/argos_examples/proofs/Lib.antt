pub mod Apart
pub mod GoodPrograms
pub mod MutualSupportCases
pub mod NoReactionCases
pub mod PlainSteps
pub mod Single
pub mod TokenRingCases
pub mod WorkedTraces
