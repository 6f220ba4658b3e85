-- Bytes put at the front of a slice.
pub mod PutBytes
