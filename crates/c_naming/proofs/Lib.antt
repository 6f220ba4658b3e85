-- Laws that belong to no one call.
pub mod CodeFigures
