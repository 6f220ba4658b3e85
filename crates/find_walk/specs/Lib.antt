-- Where a walk over a record's fields ends, and the numbers of those that it passes.
pub mod WalkEnds
