-- What only private contracts cite.
pub mod BuilderViews
pub mod ModuleLines
