-- Laws that belong to no one call.
pub mod TotalSigns
pub mod ReadFigures
