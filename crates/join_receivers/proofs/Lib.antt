-- The receiver that is found in a 02 is the one that the rules read there.
pub mod NamedLaws
