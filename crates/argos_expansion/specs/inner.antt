-- What private contracts alone speak of.
pub mod FirstPlaces
pub mod Growing
pub mod Growth
pub mod Marked
pub mod Placers
pub mod Placing
pub mod Renaming
pub mod ScopeViews
pub mod ShapeGrowth
pub mod Shapes
