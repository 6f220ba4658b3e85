-- A line written, in the rules' terms.
pub mod Commit
