pub mod Accepting
pub mod AspectViews
pub mod Laws
pub mod Systems
pub mod Weaving
pub mod WovenViews
