-- Lengths that the code finds.
pub mod FieldLengths
