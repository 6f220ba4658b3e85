-- The bytes of a fresh 99.
pub mod FreshTrailer
