-- What the call answers C in document 01's terms.
pub mod ItemFigures
