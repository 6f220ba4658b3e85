-- An item of a 03, sought field by field.
pub mod ItemSearch
