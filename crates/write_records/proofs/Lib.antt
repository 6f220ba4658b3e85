-- Facts that the crate above hands over.
pub mod LinesSaid
