-- What the answers about a record's lines say.
pub mod LineChecks
