-- Digits put one by one, and bytes put at the front of a slice.
pub mod PutLaws
