-- What a walk puts into a slice, and what holds while it goes on.
pub mod PutLaws
pub mod WalkLaws
