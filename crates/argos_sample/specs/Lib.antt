pub mod SampleForm
pub mod SampleModule
pub mod Emitted
pub mod Running
pub mod Laws
