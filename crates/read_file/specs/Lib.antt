-- What the reader's types mean, its step with what the walk keeps, and what its answers say.
pub mod FileMeanings
pub mod RecordSteps
pub mod FileAnswers
