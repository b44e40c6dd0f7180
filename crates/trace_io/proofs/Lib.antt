pub mod Cuts
pub mod Devices
pub mod JoinedWords
pub mod TraceEnds
pub mod WordLists
pub mod WordSets
