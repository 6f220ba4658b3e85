-- The code's states in the rules' terms.
pub mod WriterMeaning
