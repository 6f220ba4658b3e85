-- When a sum stays within its bound.
pub mod UnitsLaws
