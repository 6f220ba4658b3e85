-- Facts that the proofs of the functions hand over.
pub mod CodeLaws
pub mod SameCodes
