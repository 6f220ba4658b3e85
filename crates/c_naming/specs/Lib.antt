-- What the call about a type code answers C in document 02's terms.
pub mod CNamed
