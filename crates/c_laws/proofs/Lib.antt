-- C's read-back, and one answer for each call.
pub mod CTheorems
pub mod OneAnswer
