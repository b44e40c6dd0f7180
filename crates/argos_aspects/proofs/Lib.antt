pub mod WovenOnce
pub mod WovenLaws
pub mod ExampleWoven
