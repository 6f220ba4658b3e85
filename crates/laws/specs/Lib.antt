-- The words of the theorems.
pub mod LawWords
