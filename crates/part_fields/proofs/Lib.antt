-- What a walk over all fields hands out, in numbers, and what the call answers.
pub mod NumberLaws
pub mod FieldsLaws
