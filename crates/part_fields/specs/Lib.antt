-- The fields of a record as numbers.
pub mod FieldAnswers
