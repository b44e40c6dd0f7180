pub mod Emissions
pub mod GuardBuilding
pub mod LiteralLists
pub mod ModuleRoom
pub mod OwnStates
pub mod ProcessBuilding
pub mod RegisterCases
pub mod StateBuilding
