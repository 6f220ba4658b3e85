-- Facts that the proofs of the functions hand over.
pub mod DraftBytes
pub mod LineSpace
pub mod DrawnLaws
pub mod FieldChains
