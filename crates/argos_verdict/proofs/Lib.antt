pub mod Classical
pub mod FirstFaults
pub mod FirstStates
pub mod JudgingSteps
pub mod Keys
pub mod OneDecision
pub mod SizedReactions
pub mod SomeDecision
