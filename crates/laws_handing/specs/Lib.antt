-- The words in which the theorems are said.
pub mod HandingWords
