-- What is found at a byte.
pub mod FoundLaws
