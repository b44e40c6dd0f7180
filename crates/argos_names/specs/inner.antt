-- What private contracts alone speak of.
pub mod AroundViews
pub mod FirstPlaces
pub mod FoundViews
pub mod Least
pub mod ScopeViews
pub mod SortViews
