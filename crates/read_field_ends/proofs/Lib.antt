-- Laws of cutting fields.
pub mod FieldLengthLaws
