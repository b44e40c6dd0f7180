pub mod EmitLemmas
pub mod Emitting
pub mod KeepsRules
pub mod LineSteps
pub mod NameCopies
pub mod SameRuns
pub mod StepResult
