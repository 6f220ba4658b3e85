-- What the reading calls answer C in document 01's terms.
pub mod CAnswers
