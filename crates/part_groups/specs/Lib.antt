-- What the answers of the code say, the envelopes that parts are found in, and a detail's text.
pub mod PartMeaning
pub mod PartsEnclosed
