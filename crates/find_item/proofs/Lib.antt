-- What is ahead of the walk, and which item is met there.
pub mod ItemLaws
