-- What the codes stand for.
pub mod CodeMeaning
