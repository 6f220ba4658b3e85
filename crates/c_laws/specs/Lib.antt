-- The words in which C's read-back is said.
pub mod CWords
