-- The words in which the read-back theorem is said.
pub mod SessionWords
