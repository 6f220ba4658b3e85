-- Facts that the proofs of the functions hand over.
pub mod EndLaws
