-- A line put at the front of a slice.
pub mod PutLines
