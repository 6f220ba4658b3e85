-- What split and combine answer C in document 01's terms.
pub mod CJoined
