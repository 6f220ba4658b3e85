-- Facts that the proofs of the functions hand over.
pub mod StateSums
pub mod CommitLaws
pub mod LinesCommitted
