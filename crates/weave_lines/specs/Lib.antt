pub mod inner
pub mod Laws
pub mod MachineOnce
pub mod Systems
pub mod WovenLines
