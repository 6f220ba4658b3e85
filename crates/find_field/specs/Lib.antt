-- The search for a field of a kind, and what the answers of the code say of it.
pub mod FieldSearch
pub mod SoughtKinds
