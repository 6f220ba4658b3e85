-- What it means that a result is written part by part.
pub mod WroteBytes
