-- What is kept of a record's fields, and what that is in the rules' terms.
pub mod KeepFields
pub mod KeptOfFields
