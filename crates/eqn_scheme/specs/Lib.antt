pub mod inner
pub mod Laws
pub mod LocalSets
pub mod Scheme
pub mod Settled
pub mod SignalDependence
pub mod Wired
